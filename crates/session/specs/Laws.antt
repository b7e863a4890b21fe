-- What holding a session says of the bearer.
use Rattle.std.specs.Prelude.{◌≡◌, ℕ, List, Ok, Err, Result}
use Rattle.std.specs.Result.{result_map_both}
use Rattle.terms.specs.declared.refusal.Refusal.{Refusal}
use Rattle.terms.specs.declared.fault.Fault.{Fault}
use Rattle.terms.specs.Question.{asked}
use Rattle.bearer.specs.declared.side.Side.{Side}
use Rattle.bearer.specs.declared.side.Standing.TheVariants.{Closed, Turn, UnderWay}
use Rattle.bearer.specs.Side.{other}
use Rattle.bearer.specs.Meaning.{Meaning, stand_of, fit_asks, open_after, take_after}
use Rattle.session.specs.Sessions.{Speaking, Listening, listens, speaks, opens, begins, give_in, give_left, take_in, place_in, take_left, close_in, close_left}

-- in the session's dialogue, the turn is with its side
pub record HasTurn (s : Speaking) (m : Meaning) : Type 0 where
  pub dialogue : m.number ≡ s.number
  pub turn : stand_of m ≡ Turn s.side

-- in the session's dialogue, a string is under way to the other side
pub record HasGiven (l : Listening) (m : Meaning) : Type 0 where
  pub dialogue : m.number ≡ l.number
  pub given : stand_of m ≡ UnderWay (other l.side)

-- who takes then has the turn, who opens or gives has given it away, and a close leaves no dialogue
pub record MovesOn : Type 0 where
  pub opened : (side : Side) (code xs : List ℕ) (m : Meaning) (l : Listening) → opens side code xs m ≡ Ok l → HasGiven l (open_after side code xs m)
  pub begun : (side : Side) (m : Meaning) (heard : Result ℕ Fault) (s : Speaking) → begins side m ≡ Ok (heard, s) → HasTurn s (take_after side m)
  pub given : (s : Speaking) (xs : List ℕ) (m : Meaning) (l : Listening) → give_in s xs m ≡ Ok l → HasGiven l (give_left s xs m)
  pub taken : (l : Listening) (m : Meaning) (heard : Result ℕ Fault) (s : Speaking) → take_in l m ≡ Ok (heard, s) → HasTurn s (take_left l m)
  pub closed_speaking : (s : Speaking) (m : Meaning) → close_in s m ≡ Ok tt → stand_of (close_left s m) ≡ Closed
  pub closed_listening : (l : Listening) (m : Meaning) → close_in l m ≡ Ok tt → stand_of (close_left l m) ≡ Closed

-- a refused call hands the same session back, and alters nothing
pub record Stays : Type 0 where
  pub give : (s t : Speaking) (xs : List ℕ) (m : Meaning) (why : Refusal) → give_in s xs m ≡ Err (why, t) → (t ≡ s) × (give_left s xs m ≡ m)
  pub take : (l t : Listening) (place : List ℕ) (m : Meaning) (why : Refusal) → take_in l m ≡ Err (why, t) → (t ≡ l) × (place_in l place m ≡ place) × (take_left l m ≡ m)
  pub close_speaking : (s t : Speaking) (m : Meaning) (why : Refusal) → close_in s m ≡ Err (why, t) → (t ≡ s) × (close_left s m ≡ m)
  pub close_listening : (l t : Listening) (m : Meaning) (why : Refusal) → close_in l m ≡ Err (why, t) → (t ≡ l) × (close_left l m ≡ m)

-- who has the turn is refused a give for its string alone, and who has a string waiting is refused no take
pub record Free : Type 0 where
  pub give : (s : Speaking) (xs : List ℕ) (m : Meaning) → HasTurn s m → give_in s xs m ≡ result_map_both (λ _. listens s) (λ why. (why, s)) (asked (fit_asks m.longest m.highest xs))
  pub take : (l : Listening) (m : Meaning) → m.number ≡ l.number → stand_of m ≡ UnderWay l.side → (heard : Result ℕ Fault) × (take_in l m ≡ Ok (heard, speaks l))

abbrev pub SessionsInStep : Type 0
SessionsInStep = MovesOn × Stays × Free
