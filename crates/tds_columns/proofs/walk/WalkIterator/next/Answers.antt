use Rattle.tds_columns.proofs as N
use N.walk.WalkIterator.next.Goals as goal
use N.{◌≡◌, ◌≢◌, ◌-◌, ℕ, arith}
use N.ViewLaws.{all_after, length_columns}

-- the columns after the first
others : (n : ℕ) (bytes : N.List ℕ) → n ≢ 0 → N.are_columns n bytes ≡ N.true → N.are_columns (n - 1) (N.drop (N.column_size bytes) bytes) ≡ N.true
others = grind (arith, N.and_parts)

pub column_at-size-requires : goal.column_at-size-requires
column_at-size-requires = grind arith

pub invariant_of-self : goal.invariant_of-self
invariant_of-self = grind (arith, all_after)

pub returns-clause-steps : goal.returns-clause-steps
returns-clause-steps c = rw (all_after _ c.column_at-size.result.1) (grind arith)

pub returns-clause-goes : goal.returns-clause-goes
returns-clause-goes = grind (arith, length_columns)
