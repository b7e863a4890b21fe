use Rattle.std.proofs.Common.{◌≡◌, ℕ, ◌+◌, ◌-◌, ◌/◌, ◌%◌, Bool, eqb, List, get_or, take, drop, Ok, Err, Result, sym, ap, ◌∙◌, arith}
use Rattle.terms.specs.declared.fault.Fault.{Fault}
use Rattle.terms.specs.Question.{told}
use Rattle.wire.specs.Pdu.{Carried, header_questions, body_in, Read, long_of, kind_in, more, start_questions, address_questions, field_size, Form, told_form, long_form, form_of, reading}
use Rattle.terms.proofs.Questions.{told_err, told_ok, told_is, told_to, told_err_to}

pub start_err : (xs : List ℕ) (f : Fault) → Err f ≡ told (start_questions xs) (get_or xs 0 0) → Err f ≡ reading xs
start_err xs f e = sym (told_err (start_questions xs) (form_of (kind_in xs) (more xs) xs).questions f (get_or xs 0 0) (form_of (kind_in xs) (more xs) xs).stands (sym e))

pub by_form : (xs : List ℕ) (x : ℕ) (f : Form) (r : Result Read Fault) → Ok x ≡ told (start_questions xs) (get_or xs 0 0) → form_of (x / 2) (eqb (x % 2) 1) xs ≡ f → r ≡ told_form f → r ≡ reading xs
by_form xs x f r e g h =
    let i : x ≡ get_or xs 0 0 = told_is (start_questions xs) (get_or xs 0 0) x (sym e) in
    let j : f ≡ form_of (kind_in xs) (more xs) xs = sym g ∙ ap (λ k. form_of (k / 2) (eqb (k % 2) 1) xs) i in
    h ∙ ap told_form j ∙ sym (told_ok (start_questions xs) (form_of (kind_in xs) (more xs) xs).questions (get_or xs 0 0) x (form_of (kind_in xs) (more xs) xs).stands (sym e))

pub long_no : (m : Bool) (xs : List ℕ) (f : Fault) → Err f ≡ told (address_questions xs) (field_size xs) → Err f ≡ told_form (long_form m xs)
long_no m xs f e = sym (told_err (address_questions xs) (header_questions (1 + field_size xs) xs) f (field_size xs) (long_form m xs).stands (sym e))

long_then : (m : Bool) (xs : List ℕ) (n : ℕ) → Ok n ≡ told (address_questions xs) (field_size xs) → told_form (long_form m xs) ≡ told (header_questions (1 + n) xs) (long_of m (record { place = 1; octets = take n (drop 1 xs) }) (body_in (1 + n) xs))
long_then m xs n e =
    let i : n ≡ field_size xs = told_is (address_questions xs) (field_size xs) n (sym e) in
    told_ok (address_questions xs) (header_questions (1 + field_size xs) xs) (field_size xs) n (long_form m xs).stands (sym e)
    ∙ ap (λ k. told (header_questions (1 + k) xs) (long_of m (record { place = 1; octets = take k (drop 1 xs) }) (body_in (1 + k) xs))) (sym i)

pub long_wrong : (m : Bool) (xs : List ℕ) (n : ℕ) (f : Fault) → Ok n ≡ told (address_questions xs) (field_size xs) → Err f ≡ told (header_questions (1 + n) xs) (body_in (1 + n) xs) → Err f ≡ told_form (long_form m xs)
long_wrong m xs n f e g =
    sym (long_then m xs n e ∙ told_err_to (header_questions (1 + n) xs) f (body_in (1 + n) xs) (long_of m (record { place = 1; octets = take n (drop 1 xs) }) (body_in (1 + n) xs)) (sym g))

pub long_is : (m : Bool) (xs : List ℕ) (n : ℕ) (b : Carried) → Ok n ≡ told (address_questions xs) (field_size xs) → Ok b ≡ told (header_questions (1 + n) xs) (body_in (1 + n) xs)
    → Ok (long_of m (record { place = 1; octets = take (1 + n - 1) (drop 1 xs) }) b) ≡ told_form (long_form m xs)
long_is m xs n b e g =
    let z : 1 + n - 1 ≡ n = omega arith in
    ap (λ k. Ok (long_of m (record { place = 1; octets = take k (drop 1 xs) }) b)) z
    ∙ sym (long_then m xs n e ∙ told_to (header_questions (1 + n) xs) (λ c. long_of m (record { place = 1; octets = take n (drop 1 xs) }) c) (body_in (1 + n) xs) b (sym g))
