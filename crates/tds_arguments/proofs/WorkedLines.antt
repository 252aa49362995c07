-- Command lines that were worked out by hand.
use Rattle.tds_arguments.proofs as N
use N.{◌≡◌, List, [], ◌∷◌, Some, None, codes, refl, Text}
use Rattle.clap.proofs.OnLiterals.{clap_on_literals}

abbrev app : N.App
app = N.program_app N.Found.some_names N.Found.some_names

-- what is found under a command's name: packet size, room for columns, limit of the wire, character set, whether all responses are asked for, and FILE
abbrev found : List Text → N.Option (Text × List (N.Option Text))
found arguments = N.option_map (λ p. (
  p.0,
  N.map (λ name. N.first_of name p.1)
      (codes "packet-size" ∷ codes "column-room" ∷ codes "max-wire" ∷ codes "charset" ∷ codes "all" ∷ codes "FILE" ∷ []),
)) (N.subcommand_of app arguments)

all_options : List Text
all_options = codes "export" ∷ codes "--packet-size" ∷ codes "512" ∷ codes "--charset=utf-8" ∷ codes "f" ∷ codes "--column-room=10" ∷ codes
    "--max-wire" ∷ codes "8" ∷ codes "--all" ∷ []

all_options-found : (N.fault_of app all_options ≡ [])
    × (found all_options ≡ Some (
      codes "export",
      Some (codes "512") ∷ Some (codes "10") ∷ Some (codes "8") ∷ Some (codes "utf-8") ∷ Some (codes "true") ∷ Some (codes "f") ∷ [],
    ))
unfolding clap_on_literals all_options
all_options-found = (refl, refl)

-- the defaults, and standard input; and a recut
defaults-found : (N.fault_of app (codes "check" ∷ []) ≡ [])
    × (found (codes "check" ∷ []) ≡ Some (
      codes "check",
      Some (codes "4096") ∷ Some (codes "1048576") ∷ Some (codes "1099511627776") ∷ Some (codes "windows-1252") ∷ Some (codes "false") ∷ None ∷ [],
    ))
    × (found (codes "recut" ∷ codes "--packet-size=4096" ∷ []) ≡ Some (
      codes "recut",
      Some (codes "4096") ∷ None ∷ Some (codes "1099511627776") ∷ None ∷ None ∷ None ∷ [],
    ))
unfolding clap_on_literals
defaults-found = (refl, refl, refl)

-- a recut without its packet size, a recut of all responses, a number below its range, an unknown name of a character set, and no command
faults : N.map (N.fault_of app) ((codes "recut" ∷ []) ∷ (codes "recut" ∷ codes "--packet-size=512" ∷ codes "--all" ∷ []) ∷
    (codes "export" ∷ codes "--packet-size=511" ∷ []) ∷ (codes "export" ∷ codes "--charset=latin" ∷ []) ∷ [] ∷ []) ≡
    (N.MissingRequiredArgument ∷ []) ∷ (N.UnknownArgument ∷ []) ∷ (N.ValueValidation ∷ []) ∷ (N.InvalidValue ∷ []) ∷
    (N.MissingSubcommand ∷ []) ∷ []
unfolding clap_on_literals
faults = refl
