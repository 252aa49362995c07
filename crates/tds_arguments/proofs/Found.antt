-- What the parser found, and the answer to it.
use Rattle.tds_arguments.proofs as N
use Rattle.clap.specs.declared.error.kind.ErrorKind.TheVariants as kind
use N.{◌≡◌, ◌∙◌, ◌||◌, Bool, List, [], ◌∷◌, true, Ok, Err, inl, inr, refl, ap, ◌⊎◌, fault_of, ErrorKind, Job, Usage, Help}
use Rattle.clap.proofs.OnLiterals.{clap_on_literals}
use Rattle.tds_arguments.specs.Usages.{IsRefusal, IsUsageAt, IsUsageOf, asks_for_help}

-- the command line is one of which the parser's matches and faults are known
simple : (of_export of_check : N.Kept) → N.is_simple_and_free (N.program_app of_export of_check) ≡ true
unfolding clap_on_literals
simple of_export of_check = refl

pub is_known : (app : N.App) → N.IsProgram app → N.is_simple_and_free app ≡ true
is_known app p = rw p.4 (simple p.0 p.1)

-- without memory for the command line there is no job
abbrev pub some_names : N.Kept
some_names = record {
  ref_ptr = (0, 0);
  now = record { ref_ptr = (0, 0); now = N.codes "windows-1252" } ∷ record
      { ref_ptr = (0, 0); now = N.codes "utf-8" } ∷ [];
}

pub without_memory : (arguments : List N.Text) (answer : N.Result Job Usage) → N.IsErrAnd answer (λ usage. usage ≡ N.OutOfMemory) → N.Answers arguments answer
without_memory arguments (Ok job) none = absurd none
without_memory arguments (Err usage) is = record {
  app = N.program_app _ _;
  is_program = (some_names, some_names, refl, refl, refl);
  gives = (inl is, rw is tt);
}

or_true : (a b : Bool) → b ≡ true → (a || b) ≡ true
or_true = grind N.arith

some_fault : (test : ErrorKind → Bool) (k : ErrorKind) (faults : List ErrorKind) → N.IsAmong k faults → test k ≡ true → N.list_any test faults ≡ true
some_fault test k [] among is = absurd among
some_fault test k (x ∷ xs) (inl same) is = grind N.arith
some_fault test k (x ∷ xs) (inr among) is = or_true (test x) (N.list_any test xs) (some_fault test k xs among is)

-- a fault of the arguments shows in what is answered
at_fault : (k : ErrorKind) (faults : List ErrorKind) (usage : Usage) → N.IsAmong k faults → IsUsageOf k usage → IsUsageAt faults usage
at_fault k faults N.OutOfMemory among of = tt
at_fault k faults (Help text) among of = some_fault asks_for_help k faults among of
at_fault k faults (N.Refused text) among of = grind (N.arith, some_fault)

-- without memory there is no other answer
no_memory : (k : ErrorKind) (usage : Usage) → k ≡ kind.OutOfMemory → IsUsageOf k usage → usage ≡ N.OutOfMemory
no_memory = grind N.arith

module _ (app : N.App) (arguments : List N.Text) (program : N.IsProgram app) where
  pub refused : (error : N.Error) (usage : Usage) → N.FailsBy {T = N.ArgMatches} (fault_of app arguments) (Err error) → IsUsageOf (N.kind_of error) usage
      → N.Answers arguments (Err usage)
  refused error usage (inl memory) of =
      let is = no_memory (N.kind_of error) usage memory of in
      record { app = app; is_program = program; gives = (inl is, rw is tt) }
  refused error usage (inr among) of = record {
    app = app;
    is_program = program;
    gives = grind (N.arith, at_fault);
  }

  -- arguments that fit and are refused for their numbers
  fitting : (usage : Usage) → fault_of app arguments ≡ [] → IsRefusal usage → IsUsageAt (fault_of app arguments) usage
  fitting N.OutOfMemory fits is = tt
  fitting (Help text) fits is = absurd is
  fitting (N.Refused text) fits is = inl fits

  pub found : (matches : N.ArgMatches) (answer : N.Result Job Usage) → N.FailsBy {T = N.ArgMatches} (fault_of app arguments) (Ok matches)
      → N.HasMatchesOf app arguments matches
      → N.IfOk answer N.IsInRange → N.IfOk answer (N.MakesJob (N.subcommand_rows_of matches)) → N.IfErr answer IsRefusal
      → N.IfErr answer (λ usage. (usage ≡ N.OutOfMemory) ⊎ ((job : Job) → N.IsInRange job → N.MakesJob (N.subcommand_rows_of matches) job → ⊥))
      → N.Answers arguments answer
  found matches (Ok job) fits has range makes refusal err =
      let same = (has (N.both _ _ (is_known app program)).0).1 in
      grind N.arith
  found matches (Err usage) fits has range makes refusal (inl memory) =
      record { app = app; is_program = program; gives = (inl memory, fitting usage fits refusal) }
  found matches (Err usage) fits has range makes refusal (inr none) =
      let same = (has (N.both _ _ (is_known app program)).0).1 in
      record { app = app; is_program = program; gives = (inr (λ job m. none job m.in_range (rw same m.makes)), fitting usage fits refusal) }
