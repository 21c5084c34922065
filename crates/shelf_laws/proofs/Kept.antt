-- What a shelf and its store keep of a table.
--   Good                                     a record as its type has it, unspoiled, with a store of its size
--   Table                                    a version, a last number, the numbers held and their bytes
--   Kept                                     the shelf keeps that of the table with a key, in place p
--   kept-key, kept_small, kept_for, kept-as  what follows, and the same said otherwise
--   kept-itself                              what is kept of a held table, as the record and the store have it
--   Alike, alike-itself, alike-kept          two shelves have the same of a table
--   Place laws: placing, alike-with, key-with, good-with    a shelf with another place
use mathlib.Core.Path.{◌≡◌, refl, sym, ap, subst, ◌∙◌}
use mathlib.Core.Bool.{Bool, true, false}
use mathlib.Core.Logic.{⊎_elim}
use mathlib.Core.List.{List}
use Prim.Native.Nat.{ℕ, ◌<◌, ◌≤◌}
use lib.ListN.{length}
use Rattle.base.proofs.Cases.{same_or, unlike}
use Rattle.berth.specs.Berth.{sections, places, store_size, berth_size, standing}
use Rattle.shelf.specs.Record.{place_at, with_place, length_at, holds, spoiled_of, has_key, place_of}
use Rattle.key.specs.declared.Key.{Key}
use Rattle.shelf.specs.Record.{Place}
use Rattle.shelf.proofs.Words.{Wrong, sound-place}
use Rattle.shelf_laws.specs.State.{State, Formed}
use Rattle.shelf_laws.proofs.Berths.{standing-length}
use Rattle.shelf_laws.proofs.Places.{has-key, is-taken, at_same, at_other, formed-with, held_at, place-of, place_same, unspoiled-with}

pub record Good (s : State) : Type 0 where
  pub formed : Formed s.shelf
  pub lent : length s.store ≡ store_size
  pub unspoiled : spoiled_of s.shelf ≡ false

pub record Table : Type 0 where
  pub version : ℕ
  pub last : ℕ
  pub has : ℕ → Bool
  pub bytes : ℕ → List ℕ

pub record Kept (s : State) (key : Key) (p : ℕ) (t : Table) : Type 0 where
  pub place : place_of s.shelf key ≡ p
  pub taken : p < places
  pub version : (place_at s.shelf p).version ≡ t.version
  pub last : (place_at s.shelf p).last ≡ t.last
  pub numbers : (n : ℕ) → n < sections → holds (place_at s.shelf p) n ≡ t.has n
  pub lengths : (n : ℕ) → n < sections → t.has n ≡ true → length_at (place_at s.shelf p) n ≡ length (t.bytes n)
  pub stands : (n : ℕ) → n < sections → t.has n ≡ true → standing s.store p n (length (t.bytes n)) ≡ t.bytes n

module _ (s : State) {key : Key} {p : ℕ} {t : Table} (k : Kept s key p t) where
  pub kept-key : has_key (place_at s.shelf p) key ≡ true
  kept-key = rw k.place at (held_at s.shelf key (rw k.place k.taken))

  -- the bytes of a held section fit its berth
  pub kept_small : Good s → (n : ℕ) → n < sections → t.has n ≡ true → length (t.bytes n) ≤ berth_size
  kept_small g n i h =
      let sound = sound-place s.shelf g.unspoiled p k.taken (is-taken (place_at s.shelf p) key kept-key) in
      rw (k.lengths n i h) at (sound.most n i)

  pub kept_for : {other : Key} → key ≡ other → Kept s other p t
  kept_for e = subst (λ x. Kept s x p t) e k

  -- the same table, said otherwise
  pub kept-as : {q : ℕ} {u : Table} → p ≡ q → t.version ≡ u.version → t.last ≡ u.last → ((n : ℕ) → t.has n ≡ u.has n)
      → ((n : ℕ) → t.has n ≡ true → t.bytes n ≡ u.bytes n) → Kept s key q u
  kept-as e v l h b =
      record {
        place = k.place ∙ e;
        taken = rw e at k.taken;
        version = ap (λ x. (place_at s.shelf x).version) (sym e) ∙ k.version ∙ v;
        last = ap (λ x. (place_at s.shelf x).last) (sym e) ∙ k.last ∙ l;
        numbers = λ n i. ap (λ x. holds (place_at s.shelf x) n) (sym e) ∙ k.numbers n i ∙ h n;
        lengths = λ n i y. ap (λ x. length_at (place_at s.shelf x) n) (sym e) ∙ k.lengths n i (h n ∙ y) ∙ ap length (b n (h n ∙ y));
        stands = λ n i y. rw (← e, ← b n (h n ∙ y)) (k.stands n i (h n ∙ y));
      }

-- what is kept of a held table, as the record and the store have it
module _ (s : State) (p : ℕ) where
  abbrev pub held_table : Table
  held_table =
      record {
        version = (place_at s.shelf p).version;
        last = (place_at s.shelf p).last;
        has = holds (place_at s.shelf p);
        bytes = λ n. standing s.store p n (length_at (place_at s.shelf p) n);
      }

  pub kept-itself : Good s → (key : Key) → place_of s.shelf key ≡ p → p < places → Kept s key p held_table
  kept-itself g key e i =
      record {
        place = e;
        taken = i;
        version = refl;
        last = refl;
        numbers = λ n j. refl;
        lengths = λ n j h. sym (whole n j h);
        stands = λ n j h. ap (standing s.store p n) (whole n j h);
      }
    where
      whole : (n : ℕ) → n < sections → holds (place_at s.shelf p) n ≡ true
          → length (standing s.store p n (length_at (place_at s.shelf p) n)) ≡ length_at (place_at s.shelf p) n
      whole n j h =
          let sound = sound-place s.shelf g.unspoiled p i (is-taken (place_at s.shelf p) key (rw e at (held_at s.shelf key (rw e i)))) in
          standing-length s.store p n (record { lent = g.lent; place = i; number = j }) (length_at (place_at s.shelf p) n) (sound.most n j)

-- two shelves have the same of the table with a key
pub record Alike (s t : State) (key : Key) : Type 0 where
  pub place : place_of t.shelf key ≡ place_of s.shelf key
  pub table : place_of s.shelf key < places → place_at t.shelf (place_of s.shelf key) ≡ place_at s.shelf (place_of s.shelf key)
  pub berths : place_of s.shelf key < places → (n k : ℕ) → n < sections → k ≤ berth_size
      → standing t.store (place_of s.shelf key) n k ≡ standing s.store (place_of s.shelf key) n k

pub alike-itself : (s : State) (key : Key) → Alike s s key
alike-itself s key = record { place = refl; table = λ _. refl; berths = λ _ n k _ _. refl }

pub alike-kept : (s t : State) (key : Key) → Alike s t key → Good s → {p : ℕ} {u : Table} → Kept s key p u → Kept t key p u
alike-kept s t key a g {p = p} {u = u} k =
    let i : place_of s.shelf key < places = rw k.place k.taken in
    let e : place_at t.shelf p ≡ place_at s.shelf p = rw k.place at (a.table i) in
    record {
      place = a.place ∙ k.place;
      taken = k.taken;
      version = ap (λ x. x.version) e ∙ k.version;
      last = ap (λ x. x.last) e ∙ k.last;
      numbers = λ n j. ap (λ x. holds x n) e ∙ k.numbers n j;
      lengths = λ n j h. ap (λ x. length_at x n) e ∙ k.lengths n j h;
      stands = λ n j h. (rw k.place at (a.berths i n (length (u.bytes n)) j (kept_small s k g n j h))) ∙ k.stands n j h;
    }

-- the shelf with another place p, and another store
abbrev pub placing : State → ℕ → Place → List ℕ → State
placing s p place store = record { shelf = with_place s.shelf p place; store = store }

module _ (s : State) (formed : Formed s.shelf) (p : ℕ) (i : p < places) (place : Place) (store : List ℕ) where
  -- changes no table but the one that the place had and the one that it gets
  pub alike-with : (key : Key) → has_key (place_at s.shelf p) key ≡ false → has_key place key ≡ false
      → ((q n k : ℕ) → (q ≡ p → ⊥) → n < sections → k ≤ berth_size → standing store q n k ≡ standing s.store q n k)
      → Alike s (placing s p place store) key
  alike-with key a b same =
      record {
        place = place_same (with_place s.shelf p place) s.shelf key same_key_lem;
        table = λ t. at_other s.shelf formed p i place (place_of s.shelf key) (other t);
        berths = λ t n k. same (place_of s.shelf key) n k (other t);
      }
    where
      same_key_lem : (q : ℕ) → has_key (place_at (with_place s.shelf p place) q) key ≡ has_key (place_at s.shelf q) key
      same_key_lem q =
          ⊎_elim
          (λ e. rw e (ap (λ x. has_key x key) (at_same s.shelf formed p i place) ∙ b ∙ sym a))
          (λ ne. ap (λ x. has_key x key) (at_other s.shelf formed p i place q ne))
          (same_or q p)

      other : place_of s.shelf key < places → place_of s.shelf key ≡ p → ⊥
      other t e = unlike (sym (held_at s.shelf key t) ∙ ap (λ q. has_key (place_at s.shelf q) key) e ∙ a)

  -- has the key that the place gets
  pub key-with : spoiled_of (with_place s.shelf p place) ≡ false → place.taken ≡ true → place_of (with_place s.shelf p place) place.key ≡ p
  key-with u t =
      place-of (with_place s.shelf p place) place.key u p i
      (ap (λ x. has_key x place.key) (at_same s.shelf formed p i place) ∙ has-key place place.key t refl)

  -- stays good, where the place is right and no other has its key
  pub good-with : length store ≡ store_size → spoiled_of s.shelf ≡ false → length place.lengths ≡ sections → (place.taken ≡ true → ¬ (Wrong place))
      → (place.taken ≡ true → (q : ℕ) → q < places → (q ≡ p → ⊥) → has_key (place_at s.shelf q) place.key ≡ false)
      → Good (placing s p place store)
  good-with lent u l c only =
      record { formed = formed-with s.shelf formed p i place l; lent = lent; unspoiled = unspoiled-with s.shelf formed u p i place c only }
