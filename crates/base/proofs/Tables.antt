-- The law of every table of refusals: a number is given exactly when its row holds and no row above it does.
--   less, most, same, itself, or-so, and_so, not_so   a test says its words; `search words` finds that a whole table does
--   fails, denied   a test whose words are not so fails, and the words of one that fails are not so
--   number-first    the number of a table's answer is the table's number
--   given           n is given exactly when n's row holds and none above it does
--   passed          a number that no row has comes exactly when no row holds and what follows gives it
--   silent          where no row holds, the answer is what follows
--   among           what is so of each refusal and of what follows is so of the answer
--   refuses         a table that refuses one answer refuses any other by the same
--   passes          a table that lets one answer pass lets any other pass
use mathlib.Core.Path.{◌≡◌, refl, sym, ap, ◌∙◌}
use mathlib.Core.Bool.{Bool, true, false, not, ◌&&◌, ◌||◌}
use mathlib.Core.List.{List, [], ◌∷◌}
use mathlib.Core.Logic.{◌↔◌, ◌⊎◌, ⊎_elim, inl, inr}
use Rattle.std.specs.Prelude.{Result, Ok, Err}
use Prim.Native.Nat.{ℕ, ◌<◌, ◌≤◌}
use lib.Dec.{ltb, leb, eqb}
use borrow.Author.Tests.{ltb-true, lt-ltb, leb-true, le-leb, eqb-true, eqb-false, eq-eqb, not-true}
use Rattle.refusal.specs.Refusal.{number}
use Rattle.refusal.specs.declared.Refusal.{Refusal}
use Rattle.base.specs.Choice.{Row, first}
use Rattle.base.specs.Tables.{Rule, None, above, said, numbered, once, Decides, Agree, Each}
use Rattle.base.proofs.Cases.{by, unlike, and_left, and_right, or_left, or_right}

pub less : (a b : ℕ) → Decides (ltb a b) (a < b)
less a b = (ltb-true a b, lt-ltb a b)

pub most : (a b : ℕ) → Decides (leb a b) (a ≤ b)
most a b = (leb-true a b, le-leb a b)

pub same : (a b : ℕ) → Decides (eqb a b) (a ≡ b)
same a b = (eqb-true a b, eq-eqb a b)

pub itself : (t : Bool) → Decides t (t ≡ true)
itself t = (λ e. e, λ e. e)

module _ {p : Type 0} where
  pub fails : (t : Bool) → Decides t p → ¬ p → t ≡ false
  fails true d n = absurd (n (d.0 refl))
  fails false d n = refl

  pub denied : (t : Bool) → Decides t p → t ≡ false → ¬ p
  denied t d e x = unlike (sym (d.1 x) ∙ e)

  pub not_so : (t : Bool) → Decides t p → Decides (not t) (¬ p)
  not_so t d = (λ e. denied t d (not-true t e), λ n. ap not (fails t d n))

  module _ {q : Type 0} where
    pub or-so : (t u : Bool) → Decides t p → Decides u q → Decides (t || u) (p ⊎ q)
    or-so true u d e = (λ _. inl (d.0 refl), λ _. refl)
    or-so false u d e = (λ h. inr (e.0 h), λ h. ⊎_elim (λ x. absurd (unlike (sym (d.1 x)))) e.1 h)

    pub and_so : (t u : Bool) → Decides t p → Decides u q → Decides (t && u) (p × q)
    and_so true u d e = (λ h. (d.0 refl, e.0 h), λ h. e.1 h.1)
    and_so false u d e = (λ h. absurd (unlike (sym h)), λ h. absurd (unlike (sym (d.1 h.0))))

pub ruleset words = (less, most, same, itself, or-so, and_so, not_so)

-- the numbers alone
abbrev numbers : List Row → ℕ → ℕ
numbers = first number

numbers-passed : (rs : List Row) (ws : List Rule) → Agree rs ws → (other n : ℕ) → numbered n rs ≡ false → (numbers rs other ≡ n) ↔ (None ws × (other ≡ n))
numbers-passed [] [] g other n a = (λ e. (tt, e), λ h. h.1)
numbers-passed [] (w ∷ ws) g other n a = absurd g
numbers-passed (r ∷ rs) [] g other n a = absurd g
numbers-passed (r ∷ rs) (w ∷ ws) g other n a =
    let unlike-n : (number r.refusal) ≡ n → ⊥ = eqb-false _ _ (or_left (eqb (number r.refusal) n) (numbered n rs) a) in
    let rest = numbers-passed rs ws g.2 other n (or_right (eqb (number r.refusal) n) (numbered n rs) a) in
    by r.when
    (λ t. rw t (λ e. absurd (unlike-n e), λ h. absurd (h.0.0 (g.1.0 t))))
    (λ f. rw f (λ e. ((denied r.when g.1 f, (rest.0 e).0), (rest.0 e).1), λ h. rest.1 (h.0.1, h.1)))

numbers-given : (rs : List Row) (ws : List Rule) → Agree rs ws → once rs ≡ true → (other n : ℕ) → (other ≡ n → ⊥) → (numbers rs other ≡ n) ↔ (None (above n ws) × said n ws)
numbers-given [] [] g u other n o = (λ e. absurd (o e), λ h. absurd h.1)
numbers-given [] (w ∷ ws) g u other n o = absurd g
numbers-given (r ∷ rs) [] g u other n o = absurd g
numbers-given (r ∷ rs) (w ∷ ws) g u other n o =
    let alone : numbered (number r.refusal) rs ≡ false = not-true _ (and_left (not (numbered (number r.refusal) rs)) (once rs) u) in
    let rest = numbers-given rs ws g.2 (and_right (not (numbered (number r.refusal) rs)) (once rs) u) other n o in
    by (eqb w.no n)
    (λ y.
    let q : (number r.refusal) ≡ n = g.0 ∙ eqb-true _ _ y in
    let not-below : numbers rs other ≡ n → ⊥ = λ e. o ((numbers-passed rs ws g.2 other n (rw q at alone)).0 e).1 in
    rw y (λ e. (tt, by r.when g.1.0 (λ f. absurd (not-below (rw f at e)))), λ h. rw (g.1.1 h.1) q))
    (λ y.
    rw y
    (by r.when
    (λ t. rw t (λ e. absurd (eqb-false _ _ y (sym g.0 ∙ e)), λ h. absurd (h.0.0 (g.1.0 t))))
    (λ f. rw f (λ e. ((denied r.when g.1 f, (rest.0 e).0), (rest.0 e).1), λ h. rest.1 (h.0.1, h.1)))))

-- any answer that is read off a table: `refused` makes its refusals, and `number_of` reads its number
module _ {A : Type 0} (refused : Refusal → A) (number_of : A → ℕ) (told : (r : Refusal) → number_of (refused r) ≡ number r) where
  pub number-first : (rs : List Row) (other : A) → number_of (first refused rs other) ≡ numbers rs (number_of other)
  number-first [] other = refl
  number-first (r ∷ rs) other = by r.when (λ t. rw t (told r.refusal)) (λ f. rw f (number-first rs other))

  module _ (rs : List Row) (other : A) (ws : List Rule) (agree : Agree rs ws) where
    pub given : once rs ≡ true → (n : ℕ) → (number_of other ≡ n → ⊥) → (number_of (first refused rs other) ≡ n) ↔ (None (above n ws) × said n ws)
    given u n o = rw (number-first rs other) (numbers-given rs ws agree u (number_of other) n o)

    pub passed : (n : ℕ) → numbered n rs ≡ false → (number_of (first refused rs other) ≡ n) ↔ (None ws × (number_of other ≡ n))
    passed n a = rw (number-first rs other) (numbers-passed rs ws agree (number_of other) n a)

module _ {A : Type 0} (refused : Refusal → A) where
  pub silent : (rs : List Row) (other : A) (ws : List Rule) → Agree rs ws → None ws → first refused rs other ≡ other
  silent [] other [] g n = refl
  silent [] other (w ∷ ws) g n = refl
  silent (r ∷ rs) other [] g n = absurd g
  silent (r ∷ rs) other (w ∷ ws) g n = rw (fails r.when g.1 n.0) (silent rs other ws g.2 n.1)

  pub among : (p : A → Type 0) (rs : List Row) (other : A) → Each (λ r. p (refused r)) rs → p other → p (first refused rs other)
  among p [] other e o = o
  among p (r ∷ rs) other e o = by r.when (λ t. rw t e.0) (λ f. rw f (among p rs other e.1 o))

module _ {A B : Type 0} where
  pub refuses : (rs : List Row) (a : A) (b : B) (r : Refusal) → first Err rs (Ok a) ≡ Err r → first Err rs (Ok b) ≡ Err r
  refuses [] a b r e = cc
  refuses (row ∷ rs) a b r e =
      by row.when
      (λ t. let q : Err row.refusal ≡ Err r = rw t at e in rw t cc)
      (λ f. rw f (refuses rs a b r (rw f at e)))

  pub passes : (rs : List Row) (a c : A) (refused : Refusal → B) (other : B) → first Err rs (Ok a) ≡ Ok c → first refused rs other ≡ other
  passes [] a c refused other e = refl
  passes (row ∷ rs) a c refused other e =
      by row.when
      (λ t. let q : ◌≡◌ {A = Result A Refusal} (Err row.refusal) (Ok c) = rw t at e in cc)
      (λ f. rw f (passes rs a c refused other (rw f at e)))
