use Rattle.tds_columns.proofs as N
use N.walk.column_at.Goals as goal
use N.{◌≡◌, ◌+◌, ◌*◌, ◌-◌, ◌%◌, ◌≤◌, ℕ, take, drop, arith}
use Rattle.std.proofs.Common.{Fits, length-take, w8}
use N.ViewLaws.{all_after, Lies, lies}

pub kind_at-kind-requires : goal.kind_at-kind-requires
kind_at-kind-requires c = let l = lies c.args.bytes.now c.requires in
    (grind arith)

-- the kind and the name at the front, by the number of bytes after the type byte and that of the name's units
at_front : {bytes : N.List ℕ} {kind : N.Kind} {rest units : ℕ} → Lies bytes → N.rest_length (N.slice_index bytes 6) ≡ N.Some rest
    → ((k : N.Kind) → N.named_kind (N.slice_index bytes 6) (take rest (take (N.length bytes - 7) (drop 7 bytes))) ≡ N.Some k → kind ≡ k)
    → units ≡ N.get_or bytes (8 + rest - 1) 0
    → (N.is_valid kind ≡ N.true) × (N.length (take (8 + rest + 2 * units - (8 + rest)) (drop (8 + rest) bytes)) % 2 ≡ 0)
    × (◌≡◌ {A = N.Column} (record { kind = kind; name = take (8 + rest + 2 * units - (8 + rest)) (drop (8 + rest) bytes) }) (N.column_at bytes))
at_front {bytes} {kind} {rest} {units} l known named is =
    let r : rest ≡ N.rest_size bytes = cc in
    let byte : 8 + rest - 1 ≡ 7 + N.rest_size bytes = omega (arith, r) in
    let size : 8 + rest + 2 * units - (8 + rest) ≡ N.name_size bytes = omega (arith, is, N.ap (λ n. N.get_or bytes n 0) byte) in
    let k = named l.kind (rw (all_after bytes 7, r) l.named) in (
      rw k l.valid,
      rw size (omega (arith, N.length-take-le (N.name_size bytes) (drop (8 + rest) bytes) (omega (arith, r, N.length-drop (8 + rest) bytes)))),
      rw (k, size, r) (N.sym l.at),
    )

-- a name has few bytes
few : (bytes : N.List ℕ) (i start : ℕ) {units : ℕ} → units ≡ N.get_or bytes i 0 → ((k : ℕ) → Fits w8 (N.get_or bytes k 0))
    → N.length (take (start + 2 * units - start) (drop start bytes)) ≤ 510
few bytes i start {units} is fits = omega (arith, (fits i).fits, length-take (start + 2 * units - start) (drop start bytes))

pub invariant_of-column : goal.invariant_of-column
invariant_of-column c =
    let f = at_front (lies c.args.bytes.now c.requires) c.kind_at-kind.ensures.rest c.kind_at-kind.ensures.kind c.from.ensures in
    record { valid = f.0; even = f.1; few = grind arith }

pub returns-clause-column : goal.returns-clause-column
returns-clause-column = grind (arith, at_front, lies)
