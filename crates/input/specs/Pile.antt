-- The names of codings, and of piles of them: at most two, the lowest first.
use Rattle.std.specs.Prelude.{List, [], ◌∷◌, codes}
use Rattle.input.specs.declared.pile.CodingName.{CodingName}
use Rattle.input.specs.declared.pile.CodingName.TheVariants.{Hex, Septets}
use Rattle.input.specs.declared.pile.Pile.{Pile}
use Rattle.input.specs.declared.pile.Pile.TheVariants.{One, Two}
use Rattle.input.specs.Named.{Name, name}

abbrev pub codings : List (Name CodingName)
codings = name (codes "hex") Hex ∷ name (codes "septets") Septets ∷ []

abbrev pub piles : List (Name Pile)
piles =
    name (codes "hex") (One Hex) ∷ name (codes "septets") (One Septets) ∷ name (codes "hex,hex") (Two Hex Hex) ∷ name (codes "hex,septets") (Two Hex Septets) ∷ name (codes "septets,hex") (Two Septets Hex)
    ∷ name (codes "septets,septets") (Two Septets Septets) ∷ []
