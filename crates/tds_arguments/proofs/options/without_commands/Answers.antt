use Rattle.tds_arguments.proofs as N
use N.{refl, true}
use N.Commands.{set, told}

pub returns : N.options.without_commands.Goals.returns
returns c =
    let new : N.IsCommand (N.new_app (N.codes "tds_replay")) c.new.result = (c.new.ensures.app, c.new.ensures.local) in
    let version = set c.new.result c.version.result _ (λ v f. record f { version = N.Some v }) (λ s. record s { has_version = true }) c.version.ensures
    (λ f. refl) (λ f. refl) new in
    let nameless = set c.version.result c.no_binary_name.result true (λ v f. record f { no_binary_name = v })
    (λ s. record s { no_binary_name = true }) c.no_binary_name.ensures (λ f. refl) (λ f. refl) version in
    let whole : N.IsCommand N.bare_app c.subcommand_required.result =
    set c.no_binary_name.result c.subcommand_required.result true (λ v f. record f { subcommand_required = v })
    (λ s. record s { subcommand_required = true }) c.subcommand_required.ensures (λ f. refl) (λ f. refl) nameless in
    let after_help = told c.about.result c.after_help.result c.after_help.ensures refl refl
    (told c.subcommand_required.result c.about.result c.about.ensures refl refl whole) in
    N.IfOk-weaker c.bin_name.result _ _ (λ named h. told c.after_help.result named h.0 refl refl after_help) c.bin_name.ensures
