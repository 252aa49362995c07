-- The laws of descriptions.
use Rattle.std.specs.Prelude.{◌≡◌, ◌↔◌, ℕ, List, ◌++◌, take}
use Rattle.tds_packet.specs.declared.fault.Fault.{Fault}
use Rattle.tds_packet.specs.Elements.{AreBytes, Spelt, IsRefused}
use Rattle.tds_columns.specs.Description.{Column, SpellsDescription, DescriptionPart, BeforeCount, WholeDescription, description}

-- No bytes describe two lists of columns.
abbrev pub OneDescription : Type 0
OneDescription = (room : ℕ) (a b : List Column) (bytes : List ℕ) → SpellsDescription room a bytes → SpellsDescription room b bytes → a ≡ b

-- No description begins with an element that is refused.
abbrev pub RefusedDescription : Type 0
RefusedDescription = (room : ℕ) (front rest more : List ℕ) (at : DescriptionPart) (fault : Fault) (columns : List Column) →
    Spelt (description room) BeforeCount front at → IsRefused (description room) at rest fault
    → SpellsDescription room columns ((front ++ take ((description room).size at) rest) ++ more) → ⊥

-- Bytes describe the columns exactly if all of them are read as their description.
abbrev pub DescriptionAsSpelt : Type 0
DescriptionAsSpelt = (room : ℕ) (columns : List Column) (bytes : List ℕ) → AreBytes bytes →
    SpellsDescription room columns bytes ↔ Spelt (description room) BeforeCount bytes (WholeDescription bytes columns)
