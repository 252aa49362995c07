-- What the parser reads of a command that is built step by step.
use Rattle.tds_arguments.proofs as N
use N.{◌≡◌, ◌∙◌, ◌||◌, IfOk, ℤ, ap, ap₂, pos, true, App, Rule, Arg, Command, out-Command, Command-F, IsCommand}
use Rattle.clap.specs.Simple.{Shape, app_of_fields, on_top}

pub with_argument : {app : App} {rule : Rule} (old new : Command) (a : Arg) → IsCommand app old → N.IsArgument rule a → N.AddsArg old a new
    → IsCommand (N.with_rule app rule) new
with_argument = grind N.arith

-- the same of a command that may be missing for want of memory
pub argument_then : {E : Type 0} (made next : N.Result Command E) (a : Arg) (app : App) (rule : Rule) → IfOk made (IsCommand app) → N.IsArgument rule a
    → IfOk next (N.GainsArgument made a) → IfOk next (IsCommand (N.with_rule app rule))
argument_then made next a app rule is arg = grind (N.arith, with_argument)

pub with_command : {app below : App} (old sub new : Command) → IsCommand app old → IsCommand below sub → N.AddsSubcommand old sub new
    → IsCommand (N.with_subcommand app below.top) new
with_command = grind N.arith

-- the same of texts, which the parser doesn't read
pub told : {app : App} {fields : Command-F Command} (old new : Command) → out-Command new ≡ fields
    → app_of_fields fields ≡ app_of_fields (out-Command old)
    → fields.has_globals ≡ (out-Command old).has_globals → IsCommand app old → IsCommand app new
told = grind N.arith

-- the same of a setting that the parser reads
pub set : {V : Type 0} {app : App} (old new : Command) (value : V) (settle : V → Command-F Command → Command-F Command) (change : Shape → Shape)
    → out-Command new ≡ settle value (out-Command old)
    → ((fields : Command-F Command) → app_of_fields (settle value fields) ≡ on_top change (app_of_fields fields))
    → ((fields : Command-F Command) → (settle value fields).has_globals ≡ fields.has_globals)
    → IsCommand app old → IsCommand (on_top change app) new
set old new value settle change is same globals c = grind (N.arith, same)

-- an argument that has to be given
pub required : {rule : Rule} (old new : Arg) → new ≡ record old { required = true } → N.IsArgument rule old
    → N.IsArgument (record rule { required = true }) new
required old new is arg = (ap N.rule_of is ∙ ap (λ (r : Rule). record r { required = true }) arg.0, ap (λ a. a.global) is ∙ arg.1)

-- a parser of numbers of 16 bits, narrowed to packet sizes
pub narrowed : (parser result : N.ValueParser) (least most : ℤ) → parser ≡ N.Signed (pos 0) (pos 65535) → least ≡ pos 512 → most ≡ pos 32767
    → N.NarrowsTo parser (N.Some least) (N.Some most) result → result ≡ N.packet_sizes
narrowed parser result least most is low high narrows = rw (is, low, high) at narrows
