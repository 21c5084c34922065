-- Over any history every table is as it was left.
--   file-own       the sections of an accepted file are its table's
--   file-sections  and they are those that its reading finds
--   left-kept      what is kept of a table whose sections are its own is as it was left
--   left_step      one call keeps it so
--   left-all       it is so after every history
use mathlib.Core.Path.{◌≡◌, refl, sym, ap, subst, ◌∙◌}
use mathlib.Core.Bool.{true, ◌&&◌}
use mathlib.Core.List.{List, [], ◌∷◌}
use mathlib.Core.Logic.{⊎_elim}
use Prim.Native.Nat.{ℕ, ◌<◌}
use native.Mathlib.Omega.{arith}
use lib.Dec.{eqb}
use lib.ListN.{get_or}
use borrow.Author.Tests.{eqb-true, eqb-false, not-true}
use Rattle.std.specs.Prelude.{Result, Ok, Err}
use Rattle.refusal.specs.declared.Refusal.{Refusal}
use Rattle.base.proofs.Cases.{by, unlike, and_left, and_right}
use Rattle.section.specs.Section.{read_of, header_of, version, section_number, last_section_number}
use Rattle.berth.specs.Berth.{sections, places, standing}
use Rattle.shelf.specs.Record.{place_at, holds, place_of}
use Rattle.key.specs.Key.{same_key}
use Rattle.key.specs.declared.Key.{Key}
use Rattle.shelf_offer.specs.Offer.{After}
use Rattle.shelf.specs.Record.{key_of}
use Rattle.file.specs.Layout.{chosen}
use Rattle.file.specs.Scan.{scan_of, found_in, sections_in, table_in}
use Rattle.file.specs.declared.Table as read
use Rattle.file.proofs.Found.{sound-header}
use Rattle.file.proofs.Held.{Lies}
use Rattle.shelf_laws.specs.State.{State, offer_to, load_on, release_from, after_offer, after_load, after_release}
use Rattle.shelf_laws.specs.File.{starts_in, lengths_in, length_in, carries, section_in}
use Rattle.shelf_laws.specs.Named.{key_in}
use Rattle.shelf_laws.specs.Answers.{begins, joins, accepted, is_done, frees}
use Rattle.shelf_laws.specs.Log.{table_has, loads}
use Rattle.shelf_laws.specs.History.{Call, step, after, start, after_all}
use Rattle.key.proofs.Keys.{same_key_lem}
use Rattle.shelf_laws.proofs.Kept.{Good, Table, Kept, kept-itself, Alike, alike-kept}
use Rattle.shelf_laws.proofs.Offering.{Goes, goes}
use Rattle.shelf_laws.proofs.Offered.{offer-good, offer-apart, offer-begins, offer-joins, joins-held, accepted-heard}
use Rattle.shelf_laws.proofs.HandedOut.{joins-else}
use Rattle.shelf_laws.proofs.Loaded.{holding, load-good, load_apart, load-begins, carried_table}
use Rattle.shelf_laws.proofs.Released.{release-good, release-apart, release-done}
use Rattle.shelf_laws.proofs.Histories.{fresh-unheld, start-holds}
use Rattle.file_round.specs.Round.{bytes_at, IsSection, AsLeft}
use Rattle.file_round.proofs.Sections.{same_parts}

-- the sections of a table are its own
abbrev pub Own : Key → Table → Type 0
Own key t = (n : ℕ) → n < sections → t.has n ≡ true → IsSection key t.version t.last n (t.bytes n)

pub left-kept : (s : State) (key : Key) {p : ℕ} {t : Table} → Kept s key p t → Own key t → AsLeft s key
left-kept s key {p} {t} k own i n l h =
    let e : place_of s.shelf key ≡ p = k.place in
    let has : t.has n ≡ true = sym (k.numbers n l) ∙ ap (λ q. holds (place_at s.shelf q) n) (sym e) ∙ h in
    let bytes : bytes_at s p n ≡ t.bytes n = ap (standing s.store p n) (k.lengths n l has) ∙ k.stands n l has in
    rw (e, bytes, k.version, k.last) (own n l has)

-- a table that another shelf has alike
left-alike : (s t : State) (key : Key) → Good s → Alike s t key → AsLeft s key → AsLeft t key
left-alike s t key g a left i =
    let j : place_of s.shelf key < places = rw a.place at i in
    left-kept t key (alike-kept s t key a g (kept-itself s (place_of s.shelf key) g key refl j)) (left j) i

-- a payload is a section of its table
own-payload : (payload : List ℕ) (n : ℕ) → read_of payload ≡ Ok (header_of payload) → eqb n (section_number payload) ≡ true
    → IsSection (key_in payload) (version payload) (last_section_number payload) n payload
own-payload payload n r e = record { sound = r; key = refl; version = refl; last = refl; number = sym (eqb-true _ _ e) }

-- the sections of an accepted file are its table's
pub file-own : (file : List ℕ) (table : read.Table) → scan_of file ≡ Ok table → (n : ℕ) → carries file n ≡ true
    → IsSection (key_of table.header) table.header.version table.header.last n (section_in file n)
file-own file table e n c =
    ⊎_elim
    (λ z. absurd (eqb-false _ _ (not-true (eqb (length_in file n) 0) c) z))
    (λ (w : Lies file table.header n (get_or (starts_in (scan_of file)) n 0) (length_in file n)).
    let is : w.header ≡ header_of (section_in file n) = sound-header (section_in file n) w.header w.sound in
    let shares = same_parts table.header w.header w.shares in
    record {
      sound = w.sound ∙ ap Ok is;
      key = ap key_of (sym is) ∙ sym shares.key;
      version = ap (λ x. x.version) (sym is) ∙ sym shares.version;
      last = ap (λ x. x.last) (sym is) ∙ sym shares.last;
      number = ap (λ x. x.number) (sym is) ∙ w.number;
    })
    ((holding file table e).each n)

pub file-sections : (file : List ℕ) (table : read.Table) → scan_of file ≡ Ok table → chosen sections (carries file) (section_in file) ≡ table_in file
unfolding found_in
file-sections file table e = ap (λ scan. found_in file (starts_in scan) (lengths_in scan)) e ∙ sym (ap (sections_in file) e)

module _ (s : State) (g : Good s) (left : (key : Key) → AsLeft s key) where
  module _ (payload : List ℕ) where
    -- a section joins a table of its version and last number
    shared : {r : After} → Goes s payload r → joins r.said ≡ true
        → ((place_at s.shelf (place_of s.shelf (key_in payload))).version ≡ version payload)
        × ((place_at s.shelf (place_of s.shelf (key_in payload))).last ≡ last_section_number payload)
    shared (Goes.refuses _ _) e = absurd (unlike (sym e))
    shared (Goes.began _ _ _) e = absurd (unlike (sym e))
    shared (Goes.began_again _ _ _) e = absurd (unlike (sym e))
    shared (Goes.added p a v l _) e = rw a.place (v, l)
    shared (Goes.repeats p a v l _ _) e = rw a.place (v, l)

    accepts : accepted (offer_to s payload).said ≡ true → AsLeft (after_offer (offer_to s payload)) (key_in payload)
    accepts a =
        let r = (accepted-heard s payload a).reads in
        by (begins (offer_to s payload).said)
        (λ b. left-kept (after_offer (offer_to s payload)) (key_in payload) (offer-begins s payload g b) (λ n l h. own-payload payload n r h))
        (λ b.
        let j : joins (offer_to s payload).said ≡ true = joins-else (offer_to s payload).said a b in
        let p = place_of s.shelf (key_in payload) in
        let i = joins-held s payload g j in
        let w = shared (goes s payload) j in
        left-kept (after_offer (offer_to s payload)) (key_in payload)
        (offer-joins s payload g p (kept-itself s p g (key_in payload) refl i) j)
        (λ n l h.
        by (eqb n (section_number payload))
        (λ t. rw (t, w.0, w.1) (own-payload payload n r t))
        (λ t. rw t (left (key_in payload) i n l (rw t at h)))))

    offered-left : (key : Key) → AsLeft (after_offer (offer_to s payload)) key
    offered-left key =
        let said = (offer_to s payload).said in
        by (same_key (key_in payload) key && accepted (offer_to s payload).said)
        (λ t.
        subst (AsLeft (after_offer (offer_to s payload))) (same_key_lem (key_in payload) key (and_left (same_key (key_in payload) key) (accepted said) t))
        (accepts (and_right (same_key (key_in payload) key) (accepted said) t)))
        (λ f. left-alike s (after_offer (offer_to s payload)) key g (offer-apart s payload g key f) (left key))

  module _ (file : List ℕ) where
    carried-own : (key : Key) (scan : Result read.Table Refusal) → scan_of file ≡ scan → table_has key scan ≡ true → Own key (carried_table s file g scan)
    carried-own key (Err r) e t n l c = absurd (unlike (sym t))
    carried-own key (Ok table) e t n l c =
        subst (λ k. IsSection k table.header.version table.header.last n (section_in file n)) (same_key_lem (key_of table.header) key t)
        (file-own file table e n c)

    loaded-left : (key : Key) → AsLeft (after_load (load_on s file)) key
    loaded-left key =
        let done = is_done (load_on s file).said in
        by (loads key file && is_done (load_on s file).said)
        (λ t.
        left-kept (after_load (load_on s file)) key (load-begins s file g key t)
        (carried-own key (scan_of file) refl (and_left (loads key file) done t)))
        (λ f. left-alike s (after_load (load_on s file)) key g (load_apart s file g key f) (left key))

  released-left : (gone key : Key) → AsLeft (after_release (release_from s gone)) key
  released-left gone key =
      let freed = frees (release_from s gone).said in
      by (same_key gone key && frees (release_from s gone).said)
      (λ t i.
      let z : gone ≡ key = same_key_lem gone key (and_left (same_key gone key) freed t) in
      let e : place_of (release_from s gone).shelf key ≡ places =
      ap (place_of (release_from s gone).shelf) (sym z) ∙ release-done s gone g (and_right (same_key gone key) freed t) in
      absurd (omega arith))
      (λ f. left-alike s (after_release (release_from s gone)) key g (release-apart s gone g key f) (left key))

  pub left_step : (c : Call) → (key : Key) → AsLeft (step s c) key
  left_step (Call.offer payload) = offered-left payload
  left_step (Call.load file) = loaded-left file
  left_step (Call.release gone) = released-left gone
  left_step (Call.ask question) = left

  pub good-step : (c : Call) → Good (step s c)
  good-step (Call.offer payload) = offer-good s payload g
  good-step (Call.load file) = load-good s file g
  good-step (Call.release gone) = release-good s gone g
  good-step (Call.ask question) = g

left-from : (s : State) → Good s → ((key : Key) → AsLeft s key) → (cs : List Call) → (key : Key) → AsLeft (after s cs) key
left-from s g left [] = left
left-from s g left (c ∷ cs) = left-from (step s c) (good-step s g left c) (left_step s g left c) cs

pub left-all : (h : List Call) (key : Key) → AsLeft (after_all h) key
left-all h =
    left-from start start-holds.good
    (λ key i. absurd (let e : place_of start.shelf key ≡ places = fresh-unheld key in omega arith)) h
