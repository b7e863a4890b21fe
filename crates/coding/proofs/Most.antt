-- The most octets whose encoding fits a room.
use Rattle.std.proofs.Common.{◌≡◌, ℕ, zero, suc, ◌+◌, ◌-◌, ◌<◌, ◌≤◌, Bool, true, false, cond, leb, ◌≢◌, refl, ap, arith, leb-false, leb-true}
use Rattle.coding.specs.Coding.{most_up_to, most}

-- a length that is 0 for none and grows with each octet
module _ (size : ℕ → ℕ) (none : size 0 ≡ 0) (grows : (n : ℕ) → size n < size (n + 1)) where
  grows_by : (a d : ℕ) → size a ≤ size (a + d)
  grows_by a zero =
      let e : a + 0 ≡ a = omega arith in
      omega (arith, ap size e)
  grows_by a (suc d) =
      let e : a + suc d ≡ (a + d) + 1 = omega arith in
      omega (arith, ap size e, grows_by a d, grows (a + d))

  pub grows_to : (a b : ℕ) → a ≤ b → size a ≤ size b
  grows_to a b h =
      let e : a + (b - a) ≡ b = omega arith in
      omega (arith, grows_by a (b - a), ap size e)

  -- never shorter than the octets themselves
  pub at_least : (n : ℕ) → n ≤ size n
  at_least zero = omega (arith, none)
  at_least (suc n) =
      let e : suc n ≡ n + 1 = omega arith in
      omega (arith, at_least n, grows n, ap size e)

  up_fits : (room n : ℕ) (b : Bool) → leb (size (suc n)) room ≡ b → most_up_to size room (suc n) ≡ cond b (suc n) (most_up_to size room n)
  up_fits room n b e = ap (λ v. cond v (suc n) (most_up_to size room n)) e

  fits_next : (room n : ℕ) (b : Bool) → leb (size (suc n)) room ≡ b → size (most_up_to size room n) ≤ room → size (most_up_to size room (suc n)) ≤ room
  fits_next room n true e h = omega (arith, ap size (up_fits room n true e), leb-true (size (suc n)) room e)
  fits_next room n false e h = omega (arith, ap size (up_fits room n false e))

  fits_up : (room n : ℕ) → size (most_up_to size room n) ≤ room
  fits_up room zero = omega (arith, none)
  fits_up room (suc n) = fits_next room n (leb (size (suc n)) room) refl (fits_up room n)

  pub most_fits : (room : ℕ) → size (most size room) ≤ room
  unfolding most
  most_fits room = fits_up room room

  pub most_within : (room : ℕ) → most size room ≤ room
  most_within room = omega (arith, most_fits room, at_least (most size room))

  top_next : (room n j : ℕ) (b : Bool) → leb (size (suc n)) room ≡ b → (j ≤ n → j ≤ most_up_to size room n) → j ≤ suc n → size j ≤ room → j ≤ most_up_to size room (suc n)
  top_next room n j true e h l f = omega (arith, up_fits room n true e)
  top_next room n j false e h l f =
      let ne : j ≢ suc n = λ q. omega (arith, ap size q, leb-false (size (suc n)) room e) in
      let k : j ≤ n = omega arith in
      omega (arith, up_fits room n false e, h k)

  top_up : (room n j : ℕ) → j ≤ n → size j ≤ room → j ≤ most_up_to size room n
  top_up room zero j l f = omega arith
  top_up room (suc n) j l f = top_next room n j (leb (size (suc n)) room) refl (λ h. top_up room n j h f) l f

  -- whatever fits is no more
  pub most_top : (room j : ℕ) → size j ≤ room → j ≤ most size room
  unfolding most
  most_top room j f = top_up room room j (omega (arith, at_least j)) f

  -- the most is told by: it fits, and one more does not
  pub most_is : (room j : ℕ) → size j ≤ room → room < size (j + 1) → j ≡ most size room
  most_is room j f t =
      let more : (j + 1 ≤ most size room) → ⊥ = λ h. omega (arith, grows_to (j + 1) (most size room) h, most_fits room) in
      omega (arith, most_top room j f, more)
