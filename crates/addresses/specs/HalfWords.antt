use Rattle.std.specs.Prelude.{ℕ, List, codes}
use Rattle.addresses.specs.declared.rule.Half.{Half}
use Rattle.addresses.specs.declared.rule.Half.TheVariants.{LowFifteen, HighFifteen, NotFilled}

-- what is told of an octet of two digits that is wrong
abbrev pub half_words : Half → List ℕ
half_words LowFifteen = codes "has 15 in its low half, which must be a digit"
half_words HighFifteen = codes "has 15 in its high half, which must be a digit"
half_words NotFilled = codes "must have 15 in its high half: the digit count is odd"
