-- The names of the places: 000, Table 4a.
use Rattle.std.specs.Prelude.{◌&&◌, ℕ, ◌-◌, ◌*◌, eqb, leb, ltb}
use Rattle.base.specs.Pick.{pick}
use Rattle.why.specs.declared.Field.{Field}
use Rattle.why.specs.declared.Field.TheVariants.{Id, Rtr, Ide, Data, Unnamed}

-- from bit 7 of byte 1 on: ID28 to ID18, RTR, IDE, ID17 to ID0, a bit without a name, two data bytes
unfoldable pub field_of : ℕ → Field
field_of k =
    pick (ltb k 11) (Id (28 - k))
    (pick (eqb k 11) Rtr
    (pick (eqb k 12) Ide
    (pick (ltb k 31) (Id (30 - k))
    (pick (eqb k 31) Unnamed
    (pick (ltb k 40) (Data 1)
    (Data 2))))))

unfoldable pub field_at : ℕ → ℕ → Field
field_at byte bit = pick ((leb 1 byte && leb byte 6) && leb bit 7) (field_of (byte * 8 - 1 - bit)) Unnamed
