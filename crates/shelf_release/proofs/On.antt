-- A release on lent numbers.
--   lent-refused, lent-done       what the code leaves in either case
--   release-said, release-shelf, release-store      it is the release from the record that the numbers are
--   release-unique                two answers that keep the promise are equal, with the numbers and the stores that they leave
use mathlib.Core.Path.{◌≡◌, refl, sym, ap, ◌∙◌}
use mathlib.Core.Bool.{true}
use mathlib.Core.List.{List}
use Prim.Native.Nat.{ℕ}
use lib.ListN.{length}
use Rattle.berth.specs.Berth.{sections, wiped_where}
use Rattle.berth.specs.Calls.{wiped_where_in}
use Rattle.berth.proofs.Steps.{is-place, wiped-where}
use Rattle.shelf.specs.Record.{place_of}
use Rattle.key.specs.declared.Key.{Key}
use Rattle.shelf.specs.Layout.{shelf_at}
use Rattle.shelf_write.specs.Writes.{freed_in}
use Rattle.shelf_write.specs.Calls.{freed_put}
use Rattle.shelf.proofs.Numbers.{spoiled-count}
use Rattle.shelf_write.proofs.Lent.{freed-put, freed-lent}
use Rattle.shelf_ask.specs.Ask.{holding_of}
use Rattle.std.specs.Prelude.{Result, Ok, Err}
use Rattle.refusal.specs.declared.Refusal.{Refusal}
use Rattle.shelf_ask.proofs.Held.{held}
use Rattle.shelf_ask.proofs.Alike.{by-holding}
use Rattle.shelf_release.specs.Release.{After, release_of}
use Rattle.shelf_release.specs.On.{Leaving, leaving, words_by, release_on}
use Rattle.shelf_release.proofs.Steps.{release-refused, release-done}

module _ (words store : List ℕ) (key : Key) where
  abbrev by_answer : After → Leaving
  by_answer a = leaving a.said (words_by words (place_of (shelf_at words) key) a.said) a.store

  pub lent-refused : (r : Refusal) → holding_of (shelf_at words) (length store) key ≡ Err r → leaving (Err r) words store ≡ release_on words store key
  unfolding release_on
  lent-refused r e = ap by_answer (sym (release-refused (shelf_at words) store key r e))

  module _ (p : ℕ) (e : holding_of (shelf_at words) (length store) key ≡ Ok p) where
    pub lent-done :
        {left kept : List ℕ}
        → left ≡ wiped_where_in (λ _. true) store p
        → kept ≡ freed_put words p
        → leaving (Ok tt) kept left ≡ release_on words store key
    unfolding release_on
    lent-done w k =
        let h = held (shelf_at words) (length store) key p e in
        let a = w ∙ sym (wiped-where (λ _. true) store p (is-place (length store) p h.whole h.place)) in
        let b = k ∙ freed-put words (spoiled-count words h.sound) p h.place in
        rw (a, b)
        (ap (λ q. leaving (Ok tt) (freed_in words q) (wiped_where (λ _. true) sections store p)) (sym h.at)
        ∙ ap by_answer (sym (release-done (shelf_at words) store key p e)))

  pub release-said : (release_on words store key).said ≡ (release_of (shelf_at words) store key).said
  unfolding release_on
  release-said = refl

  pub release-store : (release_on words store key).store ≡ (release_of (shelf_at words) store key).store
  unfolding release_on
  release-store = refl

  pub release-shelf : shelf_at (release_on words store key).words ≡ (release_of (shelf_at words) store key).shelf
  unfolding release_on
  release-shelf =
      by-holding (holding_of (shelf_at words) (length store) key)
      (λ p e.
      let h = held (shelf_at words) (length store) key p e in
      rw (release-done (shelf_at words) store key p e, h.at) (freed-lent words (spoiled-count words h.sound) p h.place))
      (λ n e. rw (release-refused (shelf_at words) store key n e))

  pub release-unique :
      (x y : Result (Unit {0}) Refusal)
      (held kept left stored : List ℕ)
      → leaving x held left ≡ release_on words store key
      → leaving y kept stored ≡ release_on words store key
      → (x ≡ y) × (held ≡ kept) × (left ≡ stored)
  release-unique x y held kept left stored p q =
      let e : leaving x held left ≡ leaving y kept stored = p ∙ sym q in
      (ap (λ z. z.said) e, ap (λ z. z.words) e, ap (λ z. z.store) e)
