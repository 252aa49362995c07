-- The words that the proofs of this crate share.
pub use Rattle.clap.proofs.WalkLemmas.{both, first_value-rows}
pub use Rattle.clap.specs.Words.{AddsArg, AddsSubcommand, App, FailsBy, HasMatchesOf, IsAmong, NarrowsTo, Rule, Text, app_of, fault_of, first_of, found_of}
pub use Rattle.clap.specs.Words.{is_simple_and_free, kind_of, new_app, rule_of, subcommand_of, subcommand_rows_of, with_rule, with_subcommand}
pub use Rattle.clap.specs.declared.builder.arg.Arg.{Arg}
pub use Rattle.clap.specs.declared.builder.command.Command.{Command}
pub use Rattle.clap.specs.declared.builder.command.Command.TheOpen.{Command-F}
pub use Rattle.clap.specs.declared.builder.command.Command.TheViews.{out-Command}
pub use Rattle.clap.specs.declared.builder.value_parser.ValueParser.{ValueParser}
pub use Rattle.clap.specs.declared.builder.value_parser.ValueParser.TheVariants.{Signed}
pub use Rattle.clap.specs.declared.error.Error.{Error}
pub use Rattle.clap.specs.declared.error.kind.ErrorKind.{ErrorKind}
pub use Rattle.clap.specs.declared.error.kind.ErrorKind.TheVariants.{InvalidValue, MissingRequiredArgument, MissingSubcommand, UnknownArgument, ValueValidation}
pub use Rattle.clap.specs.declared.parser.matches.ArgMatches.{ArgMatches}
pub use Rattle.std.proofs.Common.{Bool, Err, IfErr, IfOk, IsErrAnd, List, None, Ok, Option, Result, Some, [], ap, ap₂, arith, codes, false, inl, inr, map, not}
pub use Rattle.std.proofs.Common.{option_map, pos, refl, rules, slice_index, string_bytes, subst, sym, true, true≢false, ℕ, ℤ, ◌<◌, ◌==◌, ◌^◌, ◌||◌, ◌∙◌, ◌∷◌}
pub use Rattle.std.proofs.Common.{◌≡◌, ◌≢◌}
pub use Rattle.std.proofs.lemmas.Result.{IfOk-at_ok, IfOk-weaker}
pub use Rattle.std.proofs.lemmas.Str.Parse.{numerals_by_value, parse_plain, tells_digits}
pub use Rattle.std.specs.Char.{digit_value}
pub use Rattle.std.specs.List.{list_any}
pub use Rattle.std.specs.Prelude.{◌⊎◌}
pub use Rattle.std.specs.Str.{bytes_eq}
pub use Rattle.std.specs.Str.Parse.{AllDigits, ExplainsUnsignedError, HasUnsignedDigitsIfOk, IsNumeral, ParsesUnsigned}
pub use Rattle.tds_arguments.specs.CommandLine.{Answers, GainsArgument, GainsCommand, HasReading, IsArgument, IsCommand, IsProgram, IsReading, Kept, MakesJob}
pub use Rattle.tds_arguments.specs.CommandLine.{all_rule, bare_app, charset_rule, column_room_rule, file_rule, limited_app, max_wire_rule, new_packet_size_rule}
pub use Rattle.tds_arguments.specs.CommandLine.{packet_size_rule, packet_sizes, program_app, recut_app}
pub use Rattle.tds_arguments.specs.Jobs.{IsDecimal, IsInRange, IsUnread}
pub use Rattle.tds_arguments.specs.declared.job.Job.{Job}
pub use Rattle.tds_arguments.specs.declared.usage.Usage.{Usage}
pub use Rattle.tds_arguments.specs.declared.usage.Usage.TheVariants.{Help, OutOfMemory, Refused}
