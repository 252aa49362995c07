-- The command line as its parser reads it: the commands, their options, and which arguments mean a job.
use Rattle.std.specs.Prelude.{◌≡◌, ◌∷◌, ◌⊎◌, List, [], Option, Some, None, Result, Ok, IfErr, IfOk, MatchResult, codes, map, pos, true, false}
use Rattle.std.specs.Borrow.{Bor}
use Rattle.clap.specs.Words.{AddsArg, AddsSubcommand, App, Row, Rule, Text, app_of, fault_of, new_app, new_rule, rule_of, subcommand_of, with_rule}
use Rattle.clap.specs.Words.{with_subcommand}
use Rattle.clap.specs.Simple.{new_shape}
use Rattle.clap.specs.declared.builder.action.ArgAction.TheVariants.{SetTrue}
use Rattle.clap.specs.declared.builder.arg.Arg.{Arg}
use Rattle.clap.specs.declared.builder.command.Command.{Command}
use Rattle.clap.specs.declared.builder.command.Command.TheViews.{out-Command}
use Rattle.clap.specs.declared.builder.value_parser.ValueParser.{ValueParser}
use Rattle.clap.specs.declared.builder.value_parser.ValueParser.TheVariants.{Names, Signed, Unsigned}
use Rattle.tds_arguments.specs.Jobs.{IsInRange, IsJobOf}
use Rattle.tds_arguments.specs.declared.job.Job.{Job}
use Rattle.tds_arguments.specs.declared.usage.Usage.{Usage}
use Rattle.tds_arguments.specs.declared.usage.Usage.TheVariants.{OutOfMemory}
use Rattle.tds_arguments.specs.Usages.{IsRefusal, IsUsageAt}

-- an option of this name, with one value that the parser takes
abbrev pub option_rule : Text → ValueParser → Rule
option_rule name parser = record (new_rule name) { long = Some name; value_names = 1; parser = Some parser }

-- the same, with this value if it is left out
abbrev pub default_rule : Text → ValueParser → Text → Rule
default_rule name parser value = record (option_rule name parser) { defaults = value ∷ [] }

-- whole numbers from 512 to 32,767
abbrev pub packet_sizes : ValueParser
packet_sizes = Signed (pos 512) (pos 32767)

-- the packet size of a response, its room for columns, and the limit of the wire
abbrev pub packet_size_rule : Rule
packet_size_rule = default_rule (codes "packet-size") packet_sizes (codes "4096")

abbrev pub column_room_rule : Rule
column_room_rule = default_rule (codes "column-room") (Signed (pos 10) (pos 67108864)) (codes "1048576")

abbrev pub max_wire_rule : Rule
max_wire_rule = default_rule (codes "max-wire") (Unsigned 8 72057594037927936) (codes "1099511627776")

-- the packet size that `recut` writes, which has to be given
abbrev pub new_packet_size_rule : Rule
new_packet_size_rule = record (option_rule (codes "packet-size") packet_sizes) { required = true }

-- names as the parser keeps them, wherever they lie in memory
abbrev pub Kept : Type 0
Kept = Bor (List (Bor Text))

-- The names are those of the character sets.
abbrev pub NamesCharsets : Kept → Type 0
NamesCharsets names = map (λ name. name.now) names.now ≡ codes "windows-1252" ∷ codes "utf-8" ∷ []

-- the character set
abbrev pub charset_rule : Kept → Rule
charset_rule names = default_rule (codes "charset") (Names names) (codes "windows-1252")

-- all responses, an option without a value
abbrev pub all_rule : Rule
all_rule = record (new_rule (codes "all")) { long = Some (codes "all"); action = Some SetTrue }

-- FILE, which may be left out
abbrev pub file_rule : Rule
file_rule = new_rule (codes "FILE")

-- an argument that is read by the rule, for its own command only
abbrev pub IsArgument : Rule → Arg → Type 0
IsArgument rule argument = (rule_of argument ≡ rule) × (argument.global ≡ false)

-- The argument is the character set.
abbrev pub IsCharset : Arg → Type 0
IsCharset argument = (names : Kept) × NamesCharsets names × IsArgument (charset_rule names) argument

-- a command with the limits of a response
abbrev pub limited_app : Text → App
limited_app name = with_rule (with_rule (with_rule (new_app name) packet_size_rule) column_room_rule) max_wire_rule

-- a command that reads a response, by the names of character sets
abbrev pub reading_app : Text → Kept → App
reading_app name names = with_rule (with_rule (with_rule (limited_app name) (charset_rule names)) all_rule) file_rule

-- `recut`
abbrev pub recut_app : App
recut_app = with_rule (with_rule (with_rule (new_app (codes "recut")) new_packet_size_rule) max_wire_rule) file_rule

-- the program without its commands
abbrev pub bare_app : App
bare_app = record {
  top = record (new_shape (codes "tds_replay")) { no_binary_name = true; has_version = true; subcommand_required = true };
  subs = [];
}

-- the program with the commands that read a response, by the names of character sets of each
abbrev pub two_app : Kept → Kept → App
two_app of_export of_check = with_subcommand (with_subcommand bare_app (reading_app (codes "export") of_export).top)
    (reading_app (codes "check") of_check).top

-- the program with its three commands
abbrev pub program_app : Kept → Kept → App
program_app of_export of_check = with_subcommand (two_app of_export of_check) recut_app.top

-- The command is read so, and none of its arguments is for the commands below it too.
abbrev pub IsCommand : App → Command → Type 0
IsCommand app command = (app_of command ≡ app) × ((out-Command command).has_globals ≡ false)

-- The command is the one that was made, with this argument added.
abbrev pub GainsArgument : {E : Type 0} → Result Command E → Arg → Command → Type 0
GainsArgument made argument new = (old : Command) × (made ≡ Ok old) × AddsArg old argument new

-- The command is the one that was made, with the other one that was made below it.
abbrev pub GainsCommand : {E : Type 0} → Result Command E → Result Command E → Command → Type 0
GainsCommand made below new = (old sub : Command) × (made ≡ Ok old) × (below ≡ Ok sub) × AddsSubcommand old sub new

-- The command reads a response.
abbrev pub IsReading : Text → Command → Type 0
IsReading name command = (names : Kept) × NamesCharsets names × IsCommand (reading_app name names) command

-- The program has the two commands that read a response.
abbrev pub HasReading : Command → Type 0
HasReading command = (of_export : Kept) × (of_check : Kept) × NamesCharsets of_export × NamesCharsets of_check
    × IsCommand (two_app of_export of_check) command

-- The parser reads the program's command line so.
abbrev pub IsProgram : App → Type 0
IsProgram app = (of_export : Kept) × (of_check : Kept) × NamesCharsets of_export × NamesCharsets of_check × (app ≡ program_app of_export of_check)

-- The command that was found with its values, if there is one, makes this job.
abbrev pub MakesJob : Option (Text × List Row) → Job → Type 0
MakesJob None job = ⊥
MakesJob (Some found) job = IsJobOf found.0 found.1 job

-- The answer is the job that is meant, each number in its range; or, where none is meant or there is no memory, what says so and is no help.
pub record GivesJob (is_meant : Job → Type 0) (answer : Result Job Usage) : Type 0 where
  pub range : IfOk answer IsInRange
  pub job : IfOk answer is_meant
  pub refusal : IfErr answer IsRefusal
  pub err : IfErr answer (λ usage. (usage ≡ OutOfMemory) ⊎ ((job : Job) → IsInRange job → is_meant job → ⊥))

-- The arguments fit the command line, and what they name makes this job, each number in its range.
pub record Means (app : App) (arguments : List Text) (job : Job) : Type 0 where
  pub fits : fault_of app arguments ≡ []
  pub makes : MakesJob (subcommand_of app arguments) job
  pub in_range : IsInRange job

-- The arguments mean no job, or there is no memory; and help is given only to those that ask for it.
abbrev pub MeansNone : App → List Text → Usage → Type 0
MeansNone app arguments usage = ((usage ≡ OutOfMemory) ⊎ ((job : Job) → Means app arguments job → ⊥)) × IsUsageAt (fault_of app arguments) usage

-- What arguments are parsed to is the job that they mean, or why they mean none.
pub record Answers (arguments : List Text) (answer : Result Job Usage) : Type 0 where
  pub app : App
  pub is_program : IsProgram app
  pub gives : MatchResult answer (Means app arguments) (MeansNone app arguments)
