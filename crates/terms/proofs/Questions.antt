use Rattle.std.proofs.Common.{◌≡◌, ℕ, Bool, true, false, cond, List, [], ◌∷◌, ◌++◌, Some, None, Ok, Err, Option, sym, refl, ap, ◌∙◌, arith}
use Rattle.terms.specs.Question.{Question, first_no, told_of, told, unless_of, unless}
use Rattle.terms.specs.Laws.{AllHold, FirstBroken, InOrder}

err_step : {A B E : Type 0} (w : Bool) (g f : E) (m n : Option E) (a : A) (b : B) → (told_of m a ≡ Err f → told_of n b ≡ Err f) → told_of (cond w m (Some g)) a ≡ Err f → told_of (cond w n (Some g)) b ≡ Err f
err_step true g f m n a b ih e = ih e
err_step false g f m n a b ih e = let z : g ≡ f = cc in ap Err z

-- a broken question among the first is the answer
pub told_err : {A B E : Type 0} (ps bs : List (Question E)) (f : E) (a : A) (b : B) → told ps a ≡ Err f → told (ps ++ bs) b ≡ Err f
told_err [] bs f a b e = let z : ◌≡◌ {A = ℕ} 0 1 = cc in absurd (omega arith)
told_err (q ∷ ps) bs f a b e = err_step q.holds q.otherwise f (first_no ps) (first_no (ps ++ bs)) a b (told_err ps bs f a b) e

ok_step : {A B E : Type 0} (w : Bool) (g : E) (m n l : Option E) (a x : A) (b : B) → (told_of m a ≡ Ok x → told_of n b ≡ told_of l b) → told_of (cond w m (Some g)) a ≡ Ok x → told_of (cond w n (Some g)) b ≡ told_of l b
ok_step true g m n l a x b ih e = ih e
ok_step false g m n l a x b ih e = let z : ◌≡◌ {A = ℕ} 0 1 = cc in absurd (omega arith)

-- where the first hold, the others decide
pub told_ok : {A B E : Type 0} (ps bs : List (Question E)) (a x : A) (b : B) → told ps a ≡ Ok x → told (ps ++ bs) b ≡ told bs b
told_ok [] bs a x b e = refl
told_ok (q ∷ ps) bs a x b e = ok_step q.holds q.otherwise (first_no ps) (first_no (ps ++ bs)) (first_no bs) a x b (told_ok ps bs a x b) e

of_ok : {A E : Type 0} (o : Option E) (a x : A) → told_of o a ≡ Ok x → x ≡ a
of_ok None a x e = cc
of_ok (Some f) a x e = let z : ◌≡◌ {A = ℕ} 0 1 = cc in absurd (omega arith)

-- and what was told is what stands there
pub told_is : {A E : Type 0} (ps : List (Question E)) (a x : A) → told ps a ≡ Ok x → x ≡ a
told_is ps a x e = of_ok (first_no ps) a x e

to_ok : {A B E : Type 0} (o : Option E) (f : A → B) (a x : A) → told_of o a ≡ Ok x → told_of o (f a) ≡ Ok (f x)
to_ok None f a x e = let z : a ≡ x = cc in ap (λ v. Ok (f v)) z
to_ok (Some g) f a x e = let z : ◌≡◌ {A = ℕ} 0 1 = cc in absurd (omega arith)

to_err : {A B E : Type 0} (o : Option E) (g : E) (a : A) (b : B) → told_of o a ≡ Err g → told_of o b ≡ Err g
to_err None g a b e = let z : ◌≡◌ {A = ℕ} 0 1 = cc in absurd (omega arith)
to_err (Some h) g a b e = let z : h ≡ g = cc in ap Err z

pub told_to : {A B E : Type 0} (ps : List (Question E)) (f : A → B) (a x : A) → told ps a ≡ Ok x → told ps (f a) ≡ Ok (f x)
told_to ps f a x e = to_ok (first_no ps) f a x e

pub told_err_to : {A B E : Type 0} (ps : List (Question E)) (g : E) (a : A) (b : B) → told ps a ≡ Err g → told ps b ≡ Err g
told_err_to ps g a b e = to_err (first_no ps) g a b e

none_step : {E : Type 0} (w : Bool) (g : E) (m : Option E) → cond w m (Some g) ≡ None → (w ≡ true) × (m ≡ None)
none_step true g m e = (refl, e)
none_step false g m e = let z : ◌≡◌ {A = ℕ} 0 1 = cc in absurd (omega arith)

pub none_holds : {E : Type 0} (qs : List (Question E)) → first_no qs ≡ None → AllHold qs
none_holds [] e = tt
none_holds (q ∷ qs) e = let p = none_step q.holds q.otherwise (first_no qs) e in (p.0, none_holds qs p.1)

pub all_none : {E : Type 0} (qs : List (Question E)) → AllHold qs → first_no qs ≡ None
all_none [] h = refl
all_none (q ∷ qs) h = ap (λ b. cond b (first_no qs) (Some q.otherwise)) h.0 ∙ all_none qs h.1

some_step : {E : Type 0} (q : Question E) (qs : List (Question E)) (e : E) (w : Bool) → q.holds ≡ w → (first_no qs ≡ Some e → FirstBroken qs e) → cond w (first_no qs) (Some q.otherwise) ≡ Some e → FirstBroken (q ∷ qs) e
some_step q qs e true h ih k =
    let b = ih k in
    record { before = q ∷ b.before; broken = b.broken; after = b.after; order = ap (λ v. q ∷ v) b.order; fine = (h, b.fine); no = b.no; gives = b.gives }
some_step q qs e false h ih k = let z : q.otherwise ≡ e = cc in record { before = []; broken = q; after = qs; order = refl; fine = tt; no = h; gives = z }

pub some_broken : {E : Type 0} (qs : List (Question E)) (e : E) → first_no qs ≡ Some e → FirstBroken qs e
some_broken [] e k = let z : ◌≡◌ {A = ℕ} 0 1 = cc in absurd (omega arith)
some_broken (q ∷ qs) e k = some_step q qs e q.holds refl (some_broken qs e) k

passed : {E : Type 0} (ps : List (Question E)) (q : Question E) (rs : List (Question E)) → AllHold ps → q.holds ≡ false → first_no (ps ++ (q ∷ rs)) ≡ Some q.otherwise
passed [] q rs h k = ap (λ b. cond b (first_no rs) (Some q.otherwise)) k
passed (p ∷ ps) q rs h k = ap (λ b. cond b (first_no (ps ++ (q ∷ rs))) (Some p.otherwise)) h.0 ∙ passed ps q rs h.1 k

pub broken_some : {E : Type 0} (qs : List (Question E)) (e : E) → FirstBroken qs e → first_no qs ≡ Some e
broken_some qs e b = ap first_no b.order ∙ passed b.before b.broken b.after b.fine b.no ∙ ap Some b.gives

pub in_order : (E : Type 0) → InOrder E
in_order E = record { none = none_holds; some = some_broken; all = all_none; first = broken_some }

of_none : {A E : Type 0} (o : Option E) (a x : A) → told_of o a ≡ Ok x → o ≡ None
of_none None a x e = refl
of_none (Some f) a x e = let z : ◌≡◌ {A = ℕ} 0 1 = cc in absurd (omega arith)

-- what is told stands where all questions hold, and only there
pub told_holds : {A E : Type 0} (qs : List (Question E)) (a x : A) → told qs a ≡ Ok x → AllHold qs
told_holds qs a x e = none_holds qs (of_none (first_no qs) a x e)

pub told_all : {A E : Type 0} (qs : List (Question E)) (a : A) → AllHold qs → told qs a ≡ Ok a
told_all qs a h = ap (λ o. told_of o a) (all_none qs h)

pub hold_split : {E : Type 0} (ps qs : List (Question E)) → AllHold (ps ++ qs) → AllHold ps × AllHold qs
hold_split [] qs h = (tt, h)
hold_split (p ∷ ps) qs h = let r = hold_split ps qs h.1 in ((h.0, r.0), r.1)

unless_err : {A B E : Type 0} (o : Option E) (f : E) (b : B) (new old : A) → Err f ≡ told_of o b → old ≡ unless_of o new old
unless_err None f b new old e = let z : ◌≡◌ {A = ℕ} 0 1 = cc in absurd (omega arith)
unless_err (Some g) f b new old e = refl

-- a refused call leaves the old, an accepted one the new
pub refused_unless : {A B E : Type 0} (qs : List (Question E)) (f : E) (b : B) (new old : A) → Err f ≡ told qs b → old ≡ unless qs new old
refused_unless qs f b new old e = unless_err (first_no qs) f b new old e

pub done_unless : {A B E : Type 0} (qs : List (Question E)) (x b : B) (new old : A) → Ok x ≡ told qs b → new ≡ unless qs new old
done_unless qs x b new old e = sym (ap (λ o. unless_of o new old) (of_none (first_no qs) b x (sym e)))
