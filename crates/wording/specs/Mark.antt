use Rattle.std.specs.Prelude.{ℕ, ◌-◌, ◌/◌, ◌%◌, cond, ◌&&◌, ◌==◌, nat_le}
use Rattle.wording.specs.declared.dump.Mark.{Mark}

-- sixteen octets a row; one past the end of a full last row stands behind that row
abbrev pub mark_at : (place len : ℕ) → Mark
mark_at place len =
    cond (nat_le 1 place && (place == len && place % 16 == 0)) (record { row = place / 16 - 1; column = 16 }) (record { row = place / 16; column = place % 16 })
