-- Loading what was saved of a table as it was left, on a shelf with room and without that key.
--   loaded, restored      it is loaded, and the table is restored
use mathlib.Core.Path.{◌≡◌, refl, sym, ap, ◌∙◌}
use mathlib.Core.Bool.{true}
use mathlib.Core.List.{List}
use Prim.Native.Nat.{ℕ, ◌<◌, ◌≤◌}
use native.Mathlib.Omega.{arith}
use lib.Dec.{eqb, ltb}
use lib.ListN.{length, get_or-eq_default}
use lib.Seq.{ext_get_or}
use borrow.Author.Tests.{eq-eqb, ne_eqb, eqb-true, eqb-false, ltb-true, ltb-false, not-true, not-false}
use Rattle.std.specs.Prelude.{Ok}
use Rattle.base.specs.Below.{some}
use Rattle.base.proofs.Below.{some-which, some-found}
use Rattle.base.proofs.Cases.{by, unlike}
use Rattle.section.specs.Section.{header_of}
use Rattle.section.specs.declared.Header.{Header}
use Rattle.berth.specs.Berth.{sections, places, store_size, standing}
use Rattle.shelf.specs.Record.{place_at, with_place, length_at, holds, place_of, free_of}
use Rattle.key.specs.declared.Key.{Key}
use Rattle.shelf.specs.Record.{Place}
use Rattle.shelf.proofs.Words.{sound-place}
use Rattle.shelf.specs.Record.{key_of}
use Rattle.file.specs.Layout.{file_of, chosen, SoundTable}
use Rattle.file.specs.Scan.{scan_of, table_in}
use Rattle.file.specs.declared.Table as read
use Rattle.file.proofs.Heading.{headed}
use Rattle.file_laws.proofs.Accepts.{in-one-way}
use Rattle.file_laws.proofs.Files.{sound-accepted}
use Rattle.shelf_load.specs.Load.{After, loaded_place, stored_below, table_of, load_of}
use Rattle.shelf_laws.specs.State.{State, load_on, after_load}
use Rattle.shelf_laws.specs.File.{starts_in, lengths_in, length_in, carries, section_in}
use Rattle.shelf_laws.proofs.Places.{its_key, is-taken, at_same, held_at}
use Rattle.key.proofs.Keys.{key-itself}
use Rattle.shelf_laws.proofs.Kept.{Good, Kept, kept-itself}
use Rattle.shelf_laws.proofs.Loaded.{Carried, carried, load-begins, carried_table}
use Rattle.file_round.specs.Round.{bytes_at, AsLeft, Restored}
use Rattle.file_round.proofs.Picked.{matched, picked-match}
use Rattle.file_round.proofs.Sections.{sections-sound}
use Rattle.file_round.proofs.Saved.{file_from}
use Rattle.shelf_laws.proofs.Asked.{file-held}
use Rattle.file_round.proofs.Left.{file-own, file-sections}

place_same : (a b : Place) → a.taken ≡ b.taken → a.key ≡ b.key → a.version ≡ b.version → a.last ≡ b.last → a.lengths ≡ b.lengths → a ≡ b
place_same a b t k v l n =
    ap (λ x. record { taken = x; key = a.key; version = a.version; last = a.last; lengths = a.lengths }) t
    ∙ ap (λ x. record { taken = b.taken; key = x; version = a.version; last = a.last; lengths = a.lengths }) k
    ∙ ap (λ x. record { taken = b.taken; key = b.key; version = x; last = a.last; lengths = a.lengths }) v
    ∙ ap (λ x. record { taken = b.taken; key = b.key; version = b.version; last = x; lengths = a.lengths }) l
    ∙ ap (λ x. record { taken = b.taken; key = b.key; version = b.version; last = b.last; lengths = x }) n

-- the file of a held table as it was left
module _ (s : State) (g : Good s) (key : Key) (left : AsLeft s key) (i : place_of s.shelf key < places) where
  abbrev at : ℕ
  at = place_of s.shelf key

  abbrev place : Place
  place = place_at s.shelf at

  abbrev file : List ℕ
  file = file_from s key

  taken : place.taken ≡ true
  taken = is-taken place key (held_at s.shelf key i)

  -- a held number is one of the sixteen
  below-16 : (n : ℕ) → holds place n ≡ true → n < sections
  below-16 n h =
      by (ltb n sections)
      (λ t. ltb-true _ _ t)
      (λ f.
      let past : sections ≤ n = ltb-false _ _ f in
      let b : length place.lengths ≡ sections = g.formed.sixteen at i in
      absurd (eqb-false _ _ (not-true (eqb (length_at place n) 0) h) (get_or-eq_default place.lengths 0 (omega arith))))

  one : (n : ℕ) × (n < sections) × (holds place n ≡ true)
  one =
      by (some sections (holds place))
      (some-which (holds place) sections)
      (λ f.
      absurd
      ((sound-place s.shelf g.unspoiled at i taken).something
      (λ w. unlike (sym (some-found (holds place) sections w.0 w.1 (rw (ne_eqb (length_at place w.0) 0 w.2))) ∙ f))))

  sound : SoundTable (chosen sections (holds place) (bytes_at s at))
  sound = sections-sound key place.version place.last (holds place) (bytes_at s at) (left i) one.0 one.1 one.2

  accepted : (table : read.Table) × (scan_of file ≡ Ok table)
  accepted =
      let ss = chosen sections (holds place) (bytes_at s at) in
      let a = sound-accepted ss sound in
      let found = headed (scan_of (file_of ss)) a.0 a.1 in
      rw (file-held s key) (found.table, found.is)

  abbrev header : Header
  header = accepted.0.header

  same-sections : chosen sections (carries file) (section_in file) ≡ chosen sections (holds place) (bytes_at s at)
  same-sections =
      file-sections file accepted.0 accepted.1
      ∙ ap table_in (file-held s key)
      ∙ in-one-way (chosen sections (holds place) (bytes_at s at)) sound

  abbrev own : List ℕ → ℕ
  own bytes = (header_of bytes).number

  in-file : (n : ℕ) → n < sections → carries file n ≡ true → own (section_in file n) ≡ n
  in-file n _ c = (file-own file accepted.0 accepted.1 n c).number

  in_place_lem : (n : ℕ) → n < sections → holds place n ≡ true → own (bytes_at s at n) ≡ n
  in_place_lem n l h = (left i n l h).number

  -- the file has the sections that are held, and no others
  same_numbers : (n : ℕ) → n < sections → carries file n ≡ holds place n
  same_numbers = picked-match own sections (carries file) (holds place) (section_in file) (bytes_at s at) in-file in_place_lem same-sections

  same_bytes : (n : ℕ) → n < sections → holds place n ≡ true → section_in file n ≡ bytes_at s at n
  same_bytes n l h =
      (matched own sections (carries file) (holds place) (section_in file) (bytes_at s at) in-file in_place_lem same-sections n l (same_numbers n l ∙ h)).1

  key-same : key_of header ≡ key
  key-same =
      let n = one.0 in
      let c = same_numbers n one.1 ∙ one.2 in
      sym (file-own file accepted.0 accepted.1 n c).key
      ∙ ap (λ b. key_of (header_of b)) (same_bytes n one.1 one.2)
      ∙ (left i n one.1 one.2).key

  same_version : header.version ≡ place.version
  same_version =
      let n = one.0 in
      let c = same_numbers n one.1 ∙ one.2 in
      sym (file-own file accepted.0 accepted.1 n c).version
      ∙ ap (λ b. (header_of b).version) (same_bytes n one.1 one.2)
      ∙ (left i n one.1 one.2).version

  same-last : header.last ≡ place.last
  same-last =
      let n = one.0 in
      let c = same_numbers n one.1 ∙ one.2 in
      sym (file-own file accepted.0 accepted.1 n c).last
      ∙ ap (λ b. (header_of b).last) (same_bytes n one.1 one.2)
      ∙ (left i n one.1 one.2).last

  in-full : Carried file header
  in-full = carried file accepted.0 accepted.1

  same_length : (n : ℕ) → n < sections → length_in file n ≡ length_at place n
  same_length n l =
      by (holds place n)
      (λ h.
      sym (in-full.size n (same_numbers n l ∙ h))
      ∙ ap length (same_bytes n l h)
      ∙ sym ((kept-itself s at g key refl i).lengths n l h))
      (λ h.
      eqb-true (length_in file n) 0 (not-false _ (same_numbers n l ∙ h)) ∙ sym (eqb-true (length_at place n) 0 (not-false _ h)))

  same-lengths : lengths_in (scan_of file) ≡ place.lengths
  same-lengths =
      let a : length (lengths_in (scan_of file)) ≡ sections = in-full.sixteen in
      let b : length place.lengths ≡ sections = g.formed.sixteen at i in
      ext_get_or 0 (lengths_in (scan_of file)) place.lengths (a ∙ sym b) (λ n l. same_length n (omega arith))

  same_place : loaded_place header (lengths_in (scan_of file)) ≡ place
  same_place =
      place_same (loaded_place header (lengths_in (scan_of file))) place (sym taken)
      (key-same ∙ sym (its_key place key (held_at s.shelf key i))) same_version same-last same-lengths

  -- loaded on a shelf with room and without that key
  module _ (t : State) (good : Good t) (without : place_of t.shelf key ≡ places) (room : free_of t.shelf < places) where
    abbrev next : State
    next = after_load (load_on t file)

    loads-it : load_on t file
        ≡ record {
          said = Ok tt;
          shelf = with_place t.shelf (free_of t.shelf) (loaded_place header (lengths_in (scan_of file)));
          store = stored_below sections file (starts_in (scan_of file)) (lengths_in (scan_of file)) t.store (free_of t.shelf);
        }
    unfolding load_of table_of
    loads-it =
        rw (eq-eqb (length t.store) store_size good.lent, good.unspoiled, accepted.1)
        (rw (
          eq-eqb (place_of t.shelf (key_of header)) places (ap (place_of t.shelf) key-same ∙ without),
          ne_eqb (free_of t.shelf) places (λ e. omega arith),
        ))

    pub loaded : (load_on t file).said ≡ Ok tt
    loaded = ap (λ (r : After). r.said) loads-it

    kept : Kept next key (free_of t.shelf) (carried_table t file good (scan_of file))
    kept = load-begins t file good key (rw (accepted.1, loaded, key-same, key-itself key))

    there : place_at next.shelf (free_of t.shelf) ≡ place
    there =
        ap (λ (r : After). place_at r.shelf (free_of t.shelf)) loads-it
        ∙ at_same t.shelf good.formed (free_of t.shelf) room (loaded_place header (lengths_in (scan_of file)))
        ∙ same_place

    bytes-there : (n : ℕ) → bytes_at next (free_of t.shelf) n ≡ bytes_at s at n
    unfolding standing
    bytes-there n =
        by (holds place n)
        (λ h.
        let l = below-16 n h in
        let c = same_numbers n l ∙ h in
        ap (standing next.store (free_of t.shelf) n) (kept.lengths n l c) ∙ kept.stands n l c ∙ same_bytes n l h)
        (λ h.
        let z : length_at place n ≡ 0 = eqb-true (length_at place n) 0 (not-false _ h) in
        let y : length_at (place_at next.shelf (free_of t.shelf)) n ≡ 0 = ap (λ x. length_at x n) there ∙ z in
        ap (standing next.store (free_of t.shelf) n) y ∙ sym (ap (standing s.store at n) z))

    pub restored : Restored s next key
    restored =
        record {
          held = rw kept.place kept.taken;
          table = rw kept.place there;
          bytes = λ n. rw kept.place (bytes-there n);
        }
