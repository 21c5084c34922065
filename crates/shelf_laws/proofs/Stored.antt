-- What a stored section leaves kept of its table.
--   begun_table, joined_table        a table with one section, and a table with one section more
--   begun-good, begun_kept         where the section begins its table
--   added-good, added-kept         where it is added
--   repeat-kept                    where it is held already, with the same bytes
use Rattle.std.specs.Prelude.{if◌then◌else◌}
use mathlib.Core.Path.{◌≡◌, refl, sym, ap, ◌∙◌}
use mathlib.Core.Bool.{true, false, not, ◌||◌}
use mathlib.Core.List.{List}
use Prim.Native.Nat.{ℕ, ◌<◌, ◌≤◌}
use native.Mathlib.Omega.{arith}
use lib.Dec.{eqb}
use lib.ListN.{length, replicate, length-set, length-replicate, get_or-replicate}
use lib.Seq.{get_or-set_same, get_or-set_other}
use borrow.Author.Tests.{eqb-true, eqb-false, ne_eqb}
use Rattle.base.proofs.Cases.{by, unlike}
use Rattle.section.specs.Section.{header_of, version, section_number, last_section_number}
use Rattle.section.proofs.Laws.{SoundFacts}
use Rattle.berth.specs.Berth.{sections, places, store_size, put, standing}
use Rattle.shelf.specs.Record.{place_at, with_place, length_at, holds, has_key, place_of}
use Rattle.shelf.specs.Record.{Place}
use Rattle.shelf.proofs.Words.{Wrong, SoundPlace, sound-place}
use Rattle.shelf_offer.specs.Offer.{begun_place, added_place}
use Rattle.shelf_laws.specs.State.{State}
use Rattle.shelf_laws.specs.Named.{key_in}
use Rattle.shelf_laws.proofs.Berths.{Berth, put-here, put-elsewhere, put-length}
use Rattle.shelf_laws.proofs.Places.{has-key, its_key, is-taken, at_same, one_key, Bounded, bounded, right}
use Rattle.shelf_laws.proofs.Kept.{Good, Table, Kept, kept-key, kept_small, kept-as, placing, key-with, good-with}

module _ (payload : List ℕ) where
  abbrev pub begun_table : Table
  begun_table =
      record {
        version = version payload;
        last = last_section_number payload;
        has = λ n. eqb n (section_number payload);
        bytes = λ n. payload;
      }

  abbrev pub joined_table : Table → Table
  joined_table t =
      record {
        version = t.version;
        last = t.last;
        has = λ n. eqb n (section_number payload) || t.has n;
        bytes = λ n. if eqb n (section_number payload) then payload else t.bytes n;
      }

  abbrev pub begun : Place
  begun = begun_place (header_of payload) (length payload)

  abbrev pub added : Place → Place
  added place = added_place place (header_of payload) (length payload)

  -- the store with the section in its berth of place p
  abbrev stored : List ℕ → ℕ → List ℕ
  stored store p = put store p (section_number payload) payload

module _ (payload : List ℕ) (f : SoundFacts payload (header_of payload)) where
  number-16 : section_number payload < sections
  number-16 = let n : section_number payload ≤ last_section_number payload = f.number in let l : last_section_number payload ≤ 15 = f.last in omega arith

  not-empty : not (eqb (length payload) 0) ≡ true
  not-empty = let l : 8 ≤ length payload = f.least in rw (ne_eqb (length payload) 0 (λ e. omega arith))

  -- the lengths of a place with one section more
  module _ (place : Place) (sixteen : length place.lengths ≡ sections) where
    added-at : length_at (added payload place) (section_number payload) ≡ length payload
    added-at = get_or-set_same place.lengths (section_number payload) (length payload) 0 (rw sixteen number-16)

    added-not : (n : ℕ) → eqb n (section_number payload) ≡ false → length_at (added payload place) n ≡ length_at place n
    added-not n u = get_or-set_other place.lengths (section_number payload) n (length payload) 0 (eqb-false _ _ u)

    added-length : (n : ℕ) → eqb n (section_number payload) ≡ true → length_at (added payload place) n ≡ length payload
    added-length n u = ap (length_at (added payload place)) (eqb-true _ _ u) ∙ added-at

    added-holds : (n : ℕ) → holds (added payload place) n ≡ (eqb n (section_number payload) || holds place n)
    added-holds n =
        by (eqb n (section_number payload))
        (λ u. rw u (ap (λ m. not (eqb m 0)) (added-length n u) ∙ not-empty))
        (λ u. rw u (ap (λ m. not (eqb m 0)) (added-not n u)))

    added-lengths : length (added payload place).lengths ≡ sections
    added-lengths = length-set place.lengths (section_number payload) (length payload) ∙ sixteen

    added-bounded : place.last ≡ last_section_number payload → Bounded place → Bounded (added payload place)
    added-bounded e before n i h =
        by (eqb n (section_number payload))
        (λ u.
        let q : n ≡ section_number payload = eqb-true _ _ u in
        let w : length_at (added payload place) n ≡ length payload = added-length n u in
        let b : section_number payload ≤ last_section_number payload = f.number in
        (omega arith, rw w f.least, rw w f.most))
        (λ u.
        let w : length_at (added payload place) n ≡ length_at place n = added-not n u in
        let b = before n i (sym (ap (λ m. not (eqb m 0)) w) ∙ h) in
        (b.0, rw w b.1, rw w b.2))

    added-right : place.version ≤ 31 → place.last ≡ last_section_number payload → Bounded place → ¬ (Wrong (added payload place))
    added-right v e before =
        let l : last_section_number payload ≤ 15 = f.last in
        right (added payload place) v (omega arith) (added-bounded e before) (section_number payload) number-16
        (ap (λ m. not (eqb m 0)) added-at ∙ not-empty)

  -- a table that begins is one with nothing held, and a section more
  abbrev bare : Place
  bare = record { taken = true; key = key_in payload; version = version payload; last = last_section_number payload; lengths = replicate sections 0 }

  bare-sixteen : length bare.lengths ≡ sections
  bare-sixteen = length-replicate {A = ℕ} sections 0

  bare-empty : (n : ℕ) → n < sections → holds bare n ≡ false
  bare-empty n i = ap (λ m. not (eqb m 0)) (get_or-replicate sections n 0 0 i)

  begun-holds : (n : ℕ) → n < sections → holds (begun payload) n ≡ eqb n (section_number payload)
  begun-holds n i = added-holds bare bare-sixteen n ∙ by (eqb n (section_number payload)) (λ u. rw u) (λ u. rw u (bare-empty n i))

  begun-right : ¬ (Wrong (begun payload))
  begun-right =
      let v : version payload < 32 = f.version in
      added-right bare bare-sixteen (omega arith) refl (λ n i h. absurd (unlike (sym h ∙ bare-empty n i)))

  -- what stands in the section's own berth
  own-bytes : (store : List ℕ) (p : ℕ) → Berth store p (section_number payload) → (n : ℕ) → eqb n (section_number payload) ≡ true
      → standing (stored payload store p) p n (length payload) ≡ payload
  own-bytes store p b n u =
      ap (λ m. standing (stored payload store p) p m (length payload)) (eqb-true _ _ u)
      ∙ put-here store p (section_number payload) b payload f.most

  -- the section begins a table in place p, where no other place has its key; the store may have berths of that place zeroed
  module _ (s : State) (g : Good s) (p : ℕ) (i : p < places)
      (only : (q : ℕ) → q < places → (q ≡ p → ⊥) → has_key (place_at s.shelf q) (key_in payload) ≡ false)
      (store : List ℕ) (lent : length store ≡ store_size) where
    begun-berth : Berth store p (section_number payload)
    begun-berth = record { lent = lent; place = i; number = number-16 }

    pub begun-good : Good (placing s p (begun payload) (stored payload store p))
    begun-good =
        good-with s g.formed p i (begun payload) (stored payload store p)
        (put-length store p (section_number payload) begun-berth payload f.most ∙ lent)
        g.unspoiled (added-lengths bare bare-sixteen) (λ _. begun-right) (λ _. only)

    pub begun_kept : Kept (placing s p (begun payload) (stored payload store p)) (key_in payload) p (begun_table payload)
    begun_kept =
        let e : place_at (with_place s.shelf p (begun payload)) p ≡ begun payload = at_same s.shelf g.formed p i (begun payload) in
        record {
          place = key-with s g.formed p i (begun payload) (stored payload store p) begun-good.unspoiled refl;
          taken = i;
          version = ap (λ x. x.version) e;
          last = ap (λ x. x.last) e;
          numbers = λ n j. ap (λ x. holds x n) e ∙ begun-holds n j;
          lengths = λ n j u. ap (λ x. length_at x n) e ∙ added-length bare bare-sixteen n u;
          stands = λ n j u. own-bytes store p begun-berth n u;
        }

  -- the section joins the table that is kept in place p
  module _ (s : State) (g : Good s) (p : ℕ) {t : Table} (k : Kept s (key_in payload) p t) where
    abbrev place : Place
    place = place_at s.shelf p

    its-berth : Berth s.store p (section_number payload)
    its-berth = record { lent = g.lent; place = k.taken; number = number-16 }

    taken : place.taken ≡ true
    taken = is-taken place (key_in payload) (kept-key s k)

    sound : SoundPlace place
    sound = sound-place s.shelf g.unspoiled p k.taken taken

    sixteen : length place.lengths ≡ sections
    sixteen = g.formed.sixteen p k.taken

    -- it is added
    module _ (same-last : place.last ≡ last_section_number payload) where
      abbrev next : State
      next = placing s p (added payload place) (stored payload s.store p)

      pub added-good : Good next
      added-good =
          good-with s g.formed p k.taken (added payload place) (stored payload s.store p)
          (put-length s.store p (section_number payload) its-berth payload f.most ∙ g.lent)
          g.unspoiled
          (added-lengths place sixteen)
          (λ _. added-right place sixteen sound.version same-last (bounded place sound))
          (λ _ q i ne.
          by (has_key (place_at s.shelf q) place.key)
          (λ h. absurd (ne (one_key s.shelf place.key g.unspoiled q p i k.taken h (has-key place place.key taken refl))))
          (λ h. h))

      pub added-kept : Kept next (key_in payload) p (joined_table payload t)
      added-kept =
          let e : place_at (with_place s.shelf p (added payload place)) p ≡ added payload place = at_same s.shelf g.formed p k.taken (added payload place) in
          record {
            place =
                ap (place_of next.shelf) (sym (its_key place (key_in payload) (kept-key s k)))
                ∙ key-with s g.formed p k.taken (added payload place) (stored payload s.store p) added-good.unspoiled taken;
            taken = k.taken;
            version = ap (λ x. x.version) e ∙ k.version;
            last = ap (λ x. x.last) e ∙ k.last;
            numbers = λ n i. ap (λ x. holds x n) e ∙ added-holds place sixteen n ∙ ap (λ b. eqb n (section_number payload) || b) (k.numbers n i);
            lengths = λ n i h. ap (λ x. length_at x n) e ∙ more-length n i h;
            stands = more-stands;
          }
        where
          more-length : (n : ℕ) → n < sections → (joined_table payload t).has n ≡ true → length_at (added payload place) n ≡ length ((joined_table payload t).bytes n)
          more-length n i h =
              by (eqb n (section_number payload))
              (λ u. rw u (added-length place sixteen n u))
              (λ u. rw u (added-not place sixteen n u ∙ k.lengths n i (rw u at h)))

          more-stands : (n : ℕ) → n < sections → (joined_table payload t).has n ≡ true
              → standing (stored payload s.store p) p n (length ((joined_table payload t).bytes n)) ≡ (joined_table payload t).bytes n
          more-stands n i h =
              by (eqb n (section_number payload))
              (λ u. rw u (own-bytes s.store p its-berth n u))
              (λ u.
              rw u
              (put-elsewhere s.store p (section_number payload) its-berth payload f.most p n (length (t.bytes n)) i
              (λ _ e. eqb-false _ _ u (sym e)) (kept_small s k g n i (rw u at h))
              ∙ k.stands n i (rw u at h)))

    -- it is held already, with the same bytes
    pub repeat-kept : holds place (section_number payload) ≡ true
        → standing s.store p (section_number payload) (length_at place (section_number payload)) ≡ payload
        → Kept s (key_in payload) p (joined_table payload t)
    repeat-kept held e =
        kept-as s k refl refl refl
        (λ n. by (eqb n (section_number payload)) (λ u. rw u (ap (t.has) (eqb-true n (section_number payload) u) ∙ has-it)) (λ u. rw u))
        (λ n _. by (eqb n (section_number payload)) (λ u. rw u (ap (t.bytes) (eqb-true n (section_number payload) u) ∙ its-bytes)) (λ u. rw u))
      where
        has-it : t.has (section_number payload) ≡ true
        has-it = sym (k.numbers (section_number payload) number-16) ∙ held

        its-bytes : t.bytes (section_number payload) ≡ payload
        its-bytes =
            sym (k.stands (section_number payload) number-16 has-it)
            ∙ ap (standing s.store p (section_number payload)) (sym (k.lengths (section_number payload) number-16 has-it))
            ∙ e
