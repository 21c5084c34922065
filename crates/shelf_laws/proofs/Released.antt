-- What a release does. That the sixteen berths it names are zeros, and that a refused one changes nothing: release, proofs/Laws.
--   Reason, Goes, goes    the cases of a release
--   release_length        the store keeps its length
--   release-elsewhere     a berth that is not named stays as it was
--   release-good          the shelf stays good
--   release-apart         a table that is not released is left alone
--   release-done          a released table is held no more
use mathlib.Core.Path.{◌≡◌, refl, sym, ap, ◌∙◌}
use mathlib.Core.Bool.{true, false, ◌&&◌}
use mathlib.Core.Logic.{⊎_elim}
use Prim.Native.Nat.{ℕ, ◌<◌, ◌≤◌}
use native.Mathlib.Omega.{arith}
use lib.Dec.{eqb}
use lib.ListN.{length, length-replicate}
use borrow.Author.Tests.{eqb-true, eqb-false}
use Rattle.std.specs.Prelude.{Ok, Err}
use Rattle.refusal.specs.declared.Refusal.{Refusal}
use Rattle.refusal.specs.declared.Refusal.TheVariants.{TableNotHeld, StoreSize, ShelfSpoiled}
use Rattle.base.proofs.Cases.{by, same_or, unlike}
use Rattle.berth.specs.Berth.{sections, places, store_size, berth_size, wiped_where, standing}
use Rattle.berth.proofs.Berths.{where-length, where-spared}
use Rattle.shelf.specs.Record.{free_place, place_at, with_place, has_key, spoiled_of, place_of}
use Rattle.key.specs.Key.{same_key}
use Rattle.key.specs.declared.Key.{Key}
use Rattle.shelf_release.specs.Release.{After, release_of}
use Rattle.shelf_laws.specs.State.{State, release_from, after_release}
use Rattle.shelf_laws.specs.Named.{release_names}
use Rattle.shelf_laws.specs.Answers.{frees}
use Rattle.shelf_laws.specs.Laws.{ReleaseElsewhere}
use Rattle.shelf_laws.proofs.Places.{at_same, at_other, has-not, its_key, held_at, placed, not-held, one_key}
use Rattle.key.proofs.Keys.{key-itself}
use Rattle.shelf_laws.proofs.Kept.{Good, Alike, alike-itself, alike-with, good-with}

module _ (s : State) (key : Key) where
  pub data Reason : Refusal → Type 0 where
    17-store : (length s.store ≡ store_size → ⊥) → Reason StoreSize
    18-spoiled : spoiled_of s.shelf ≡ true → Reason ShelfSpoiled
    14-unheld : place_of s.shelf key ≡ places → Reason TableNotHeld

  pub data Goes : After → Type 0 where
    refuses : (r : Refusal) → Reason r → Goes (record { said = Err r; shelf = s.shelf; store = s.store })
    done : length s.store ≡ store_size → spoiled_of s.shelf ≡ false → place_of s.shelf key < places → Goes (
        record {
          said = Ok tt;
          shelf = with_place s.shelf (place_of s.shelf key) free_place;
          store = wiped_where (λ _. true) sections s.store (place_of s.shelf key);
        })

  pub goes : Goes (release_from s key)
  unfolding release_of
  goes =
      by (eqb (length s.store) store_size)
      (λ t.
      by (spoiled_of s.shelf)
      (λ u. rw (t, u) (refuses ShelfSpoiled (18-spoiled u)))
      (λ u.
      by (eqb (place_of s.shelf key) places)
      (λ e. rw (t, u, e) (refuses TableNotHeld (14-unheld (eqb-true _ _ e))))
      (λ e.
      let ne : place_of s.shelf key ≡ places → ⊥ = eqb-false _ _ e in
      let le : place_of s.shelf key ≤ places = placed s.shelf key in
      rw (t, u, e) (done (eqb-true _ _ t) u (omega arith)))))
      (λ t. rw t (refuses StoreSize (17-store (eqb-false _ _ t))))

  length-goes : {r : After} → Goes r → length r.store ≡ length s.store
  length-goes (Goes.refuses _ _) = refl
  length-goes (Goes.done l u t) = where-length (λ _. true) s.store l (place_of s.shelf key) t sections (omega arith) ∙ sym l

  pub release_length : length (release_from s key).store ≡ length s.store
  release_length = length-goes goes

  elsewhere-goes : {r : After} → Goes r → (p n k : ℕ) → n < sections → k ≤ berth_size → release_names s.shelf key r.said p n ≡ false
      → standing r.store p n k ≡ standing s.store p n k
  elsewhere-goes (Goes.refuses _ _) p n k i j e = refl
  elsewhere-goes (Goes.done l u t) p n k i j e =
      where-spared (λ _. true) s.store l (place_of s.shelf key) t sections (omega arith) p n k i (λ a _ _. eqb-false _ _ e (sym a)) j

  module _ (g : Good s) where
    good-goes : {r : After} → Goes r → Good (after_release r)
    good-goes (Goes.refuses _ _) = g
    good-goes (Goes.done l u t) =
        good-with s g.formed (place_of s.shelf key) t free_place (wiped_where (λ _. true) sections s.store (place_of s.shelf key))
        (where-length (λ _. true) s.store l (place_of s.shelf key) t sections (omega arith))
        g.unspoiled (length-replicate {A = ℕ} sections 0) (λ e. absurd (unlike (sym e))) (λ e. absurd (unlike (sym e)))

    pub release-good : Good (after_release (release_from s key))
    release-good = good-goes goes

    apart-goes : {r : After} → Goes r → (other : Key) → (same_key key other && frees r.said) ≡ false → Alike s (after_release r) other
    apart-goes (Goes.refuses _ _) other e = alike-itself s other
    apart-goes (Goes.done l u t) other e =
        alike-with s g.formed (place_of s.shelf key) t free_place (wiped_where (λ _. true) sections s.store (place_of s.shelf key)) other
        (by (has_key (place_at s.shelf (place_of s.shelf key)) other)
        (λ h.
        let z : key ≡ other = sym (its_key _ key (held_at s.shelf key t)) ∙ its_key _ other h in
        absurd (unlike (sym (ap (λ x. same_key x other && true) z ∙ rw (key-itself other)) ∙ e)))
        (λ h. h))
        (has-not free_place other refl)
        (λ q n k ne i j. where-spared (λ _. true) s.store l (place_of s.shelf key) t sections (omega arith) q n k i (λ a _ _. ne (sym a)) j)

    pub release-apart : (other : Key) → (same_key key other && frees (release_from s key).said) ≡ false → Alike s (after_release (release_from s key)) other
    release-apart = apart-goes goes

    done-goes : {r : After} → Goes r → frees r.said ≡ true → place_of r.shelf key ≡ places
    done-goes (Goes.refuses _ _) e = absurd (unlike (sym e))
    done-goes (Goes.done l u t) e = not-held (with_place s.shelf (place_of s.shelf key) free_place) key none
      where
        none : (q : ℕ) → q < places → has_key (place_at (with_place s.shelf (place_of s.shelf key) free_place) q) key ≡ false
        none q i =
            ⊎_elim
            (λ z. rw z (ap (λ x. has_key x key) (at_same s.shelf g.formed (place_of s.shelf key) t free_place) ∙ has-not free_place key refl))
            (λ ne.
            ap (λ x. has_key x key) (at_other s.shelf g.formed (place_of s.shelf key) t free_place q ne)
            ∙ by (has_key (place_at s.shelf q) key)
            (λ h. absurd (ne (one_key s.shelf key u q (place_of s.shelf key) i t h (held_at s.shelf key t))))
            (λ h. h))
            (same_or q (place_of s.shelf key))

    pub release-done : frees (release_from s key).said ≡ true → place_of (release_from s key).shelf key ≡ places
    release-done = done-goes goes

pub release-elsewhere : ReleaseElsewhere
release-elsewhere s key = elsewhere-goes s key (goes s key)
