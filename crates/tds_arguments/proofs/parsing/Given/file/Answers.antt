use Rattle.tds_arguments.proofs as N
use N.parsing.Given.file.Goals as goal
use N.{◌∙◌, ℕ}

pub returns-in_ok-from_str-in-Some : goal.returns-in_ok-from_str-in-Some
returns-in_ok-from_str-in-Some c =
    N.ap (λ (text : N.List ℕ). N.Some text) c.in_ok-from_str-in-Some.ensures.ok
    ∙ (c.in-Some.ensures ∙ N.first_value-rows (N.found_of c.args.self.now.matches.now) (N.codes "FILE"))

pub returns-in-None : goal.returns-in-None
returns-in-None c = c.in-None.ensures ∙ N.first_value-rows (N.found_of c.args.self.now.matches.now) (N.codes "FILE")
