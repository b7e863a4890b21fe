use Rattle.std.specs.Prelude.{ℕ, cond, ◌&&◌, Some, None, Option, nat_le}
use Rattle.wire.specs.declared.header.Segment.{Segment}

-- the numbers of a segment
pub record Numbers : Type 0 where
  pub reference : ℕ
  pub count : ℕ
  pub sequence : ℕ

abbrev pub numbers_of : Segment → Numbers
numbers_of s = record { reference = s.reference; count = s.count; sequence = s.sequence }

-- 1 <= sequence <= count
abbrev pub lawful_numbers : ℕ → ℕ → ℕ → Option Numbers
lawful_numbers r c s = cond (nat_le 1 s && nat_le s c) (Some (record { reference = r; count = c; sequence = s })) None
