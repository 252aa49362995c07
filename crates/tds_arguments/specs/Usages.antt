-- Why arguments are no job, by the faults that their parser found.
use Rattle.std.specs.Prelude.{◌≡◌, ◌≢◌, ◌⊎◌, ⊤, Bool, List, [], not, true, false}
use Rattle.std.specs.List.{list_any}
use Rattle.clap.specs.declared.error.kind.ErrorKind.{ErrorKind}
use Rattle.clap.specs.declared.error.kind.ErrorKind.TheVariants as kind
use Rattle.tds_arguments.specs.declared.usage.Usage.{Usage}
use Rattle.tds_arguments.specs.declared.usage.Usage.TheVariants.{OutOfMemory, Help, Refused}

-- arguments with this fault ask for help or for the version
abbrev pub asks_for_help : ErrorKind → Bool
asks_for_help kind.DisplayHelp = true
asks_for_help kind.DisplayVersion = true
asks_for_help _ = false

-- The arguments are refused, if there is memory to say so.
abbrev pub IsRefusal : Usage → Type 0
IsRefusal OutOfMemory = ⊤
IsRefusal (Help text) = ⊥
IsRefusal (Refused text) = ⊤

-- The parser's error is of this kind: help is given to what asks for it, and anything else is refused, if there is memory to say so.
abbrev pub IsUsageOf : ErrorKind → Usage → Type 0
IsUsageOf k OutOfMemory = ⊤
IsUsageOf k (Help text) = asks_for_help k ≡ true
IsUsageOf k (Refused text) = (asks_for_help k ≡ false) × (k ≢ kind.OutOfMemory)

-- Arguments with these faults get help only if one asks for it, and are refused only if one doesn't or there is none.
abbrev pub IsUsageAt : List ErrorKind → Usage → Type 0
IsUsageAt faults OutOfMemory = ⊤
IsUsageAt faults (Help text) = list_any asks_for_help faults ≡ true
IsUsageAt faults (Refused text) = (faults ≡ []) ⊎ (list_any (λ fault. not (asks_for_help fault)) faults ≡ true)
