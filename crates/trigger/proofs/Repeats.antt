-- The law of tables in which a number may stand more than once: it is given exactly when a row of it holds and none above does.
--   given_so       of an answer that is read off a table
--   given-alone    of a number that stands once: its row holds, and no row above it does
use mathlib.Core.Path.{◌≡◌, sym, ap, ◌∙◌}
use mathlib.Core.Bool.{true, not}
use mathlib.Core.List.{List, [], ◌∷◌}
use mathlib.Core.Logic.{◌↔◌, ⊎_elim, inl, inr}
use Prim.Native.Nat.{ℕ}
use lib.Dec.{eqb}
use borrow.Author.Tests.{eqb-true, eqb-false}
use Rattle.refusal.specs.Refusal.{number}
use Rattle.refusal.specs.declared.Refusal.{Refusal}
use Rattle.base.specs.Choice.{Row, first}
use Rattle.base.specs.Tables.{Rule, None, above, said, Agree}
use Rattle.base.proofs.Tables.{number-first, denied}
use Rattle.base.proofs.Cases.{by, unlike, and_left, and_right}
use Rattle.trigger.specs.Repeats.{Given, lacks, alone}

numbers-so : (rs : List Row) (ws : List Rule) → Agree rs ws → (other n : ℕ) → (other ≡ n → ⊥) → (first number rs other ≡ n) ↔ Given n ws
numbers-so [] [] g other n o = (λ e. o e, λ h. absurd h)
numbers-so [] (w ∷ ws) g other n o = absurd g
numbers-so (r ∷ rs) [] g other n o = absurd g
numbers-so (r ∷ rs) (w ∷ ws) g other n o =
    let rest = numbers-so rs ws g.2 other n o in
    by (eqb w.no n)
    (λ y.
    rw y
    (by r.when
    (λ t. rw t (λ e. inl (g.1.0 t), λ _. g.0 ∙ eqb-true _ _ y))
    (λ f.
    rw f
    (λ e. inr (denied r.when g.1 f, rest.0 e), λ h. ⊎_elim (λ x. absurd (denied r.when g.1 f x)) (λ p. rest.1 p.1) h))))
    (λ y.
    rw y
    (by r.when
    (λ t. rw t (λ e. absurd (eqb-false _ _ y (sym g.0 ∙ e)), λ h. absurd (h.0 (g.1.0 t))))
    (λ f. rw f (λ e. (denied r.when g.1 f, rest.0 e), λ h. rest.1 h.1))))

pub given_so : {A : Type 0} (refused : Refusal → A) (number_of : A → ℕ) → ((r : Refusal) → number_of (refused r) ≡ number r)
    → (rs : List Row) (other : A) (ws : List Rule) → Agree rs ws → (n : ℕ) → (number_of other ≡ n → ⊥)
    → (number_of (first refused rs other) ≡ n) ↔ Given n ws
given_so refused number_of told rs other ws g n o =
    rw (number-first refused number_of told rs other) (numbers-so rs ws g (number_of other) n o)

never : (n : ℕ) (ws : List Rule) → lacks n ws ≡ true → Given n ws → ⊥
never n [] l h = h
never n (w ∷ ws) l h =
    by (eqb w.no n)
    (λ y. unlike (sym (and_left (not (eqb w.no n)) (lacks n ws) l) ∙ ap not y))
    (λ y. never n ws (and_right (not (eqb w.no n)) (lacks n ws) l) (rw y at h).1)

pub given-alone : (n : ℕ) (ws : List Rule) → alone n ws ≡ true → Given n ws ↔ (None (above n ws) × said n ws)
given-alone n [] l = (λ h. absurd h, λ h. absurd h.1)
given-alone n (w ∷ ws) l =
    by (eqb w.no n)
    (λ y. let free : lacks n ws ≡ true = rw y at l in rw y (λ h. (tt, ⊎_elim (λ x. x) (λ p. absurd (never n ws free p.1)) h), λ h. inl h.1))
    (λ y.
    let rest = given-alone n ws (rw y at l) in
    rw y (λ h. ((h.0, (rest.0 h.1).0), (rest.0 h.1).1), λ h. (h.0.0, rest.1 (h.0.1, h.1))))
