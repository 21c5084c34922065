-- An offer on lent numbers: its step, done on them, is the promise, and the record that they then are is the offer's.
--   place_found, free-found, placed         what was found in the numbers is what the definition names
--   repeated, refused, added, began, began-again      what each step leaves
--   offer-said, offer-shelf, offer-store              an offer on lent numbers is the offer to the record that they are
use mathlib.Core.Path.{◌≡◌, refl, sym, ap, subst, ◌∙◌}
use mathlib.Core.List.{List}
use mathlib.Core.Bool.{true}
use Prim.Native.Nat.{ℕ, ◌<◌}
use native.Mathlib.Omega.{arith}
use lib.ListN.{length}
use Rattle.base.specs.Octets.{Octets}
use Rattle.base.specs.Bits.{bit}
use Rattle.berth.specs.Berth.{store_size, sections, put, wiped_where}
use Rattle.berth.specs.Calls.{put_in, wiped_where_in}
use Rattle.berth.proofs.Berths.{where-length, where-same}
use Rattle.section.specs.Section.{header_of}
use Rattle.section.specs.declared.Header.{Header}
use Rattle.shelf.specs.Record.{Shelf, key_of, place_at, with_place, holds, place_of, free_of}
use Rattle.key.specs.declared.Key.{Key}
use Rattle.key.proofs.Keys.{from_proper}
use Rattle.section.proofs.Keys.{key-id}
use Rattle.shelf.specs.Layout.{taken_in, table_in, shelf_at}
use Rattle.shelf.specs.Calls.{place_among, free_among, mask_among}
use Rattle.shelf_write.specs.Writes.{held_in, head_in}
use Rattle.shelf_write.specs.Calls.{held_put, head_put}
use Rattle.shelf.proofs.Numbers.{at_count, spoiled-count, taken_at, table_at, held_at, among-place, among-free, among-mask}
use Rattle.shelf.proofs.Find.{place-taken}
use Rattle.shelf_write.proofs.Lent as lent
use Rattle.std.specs.Prelude.{Result, Ok, Err}
use Rattle.refusal.specs.declared.Refusal.{Refusal}
use Rattle.shelf_offer.specs.declared.Offered.{Offered}
use Rattle.shelf_offer.specs.declared.Step.{Step}
use Rattle.shelf_offer.specs.declared.Step.TheVariants.{Repeats, Begins, BeginsAgain, Adds}
use Rattle.shelf_offer.specs.Offer.{begun_place, offer_of}
use Rattle.shelf_offer.specs.Steps.{step_of, done, written}
use Rattle.shelf_offer.specs.On.{Leaving, leaving, begun_words, words_by, offer_on}
use Rattle.shelf_offer.proofs.Stands.{put-at, wiped-at, wiped-none}
use Rattle.shelf_offer.proofs.Steps.{InRange, Held, Fits, step-done, step_fits}

-- a taken place of the record is one of the numbers
pub taken_of : (words : List ℕ) (p : ℕ) → length words ≡ 96 → p < 4 → (place_at (shelf_at words) p).taken ≡ true → taken_in words p ≡ true
taken_of words p n h t = sym (taken_at words p h) ∙ rw (at_count words n) at t

-- what was found in the numbers
module _ (words : List ℕ) (n : length words ≡ 96) where
  pub place_found : {p : ℕ} {key : Key} (h : Header) → key ≡ key_of h → p ≡ place_among words key → p ≡ place_of (shelf_at words) (key_of h)
  place_found h e q = q ∙ ap (place_among words) e ∙ among-place words (key_of h) n ∙ ap (λ s. place_of s (key_of h)) (sym (at_count words n))

  pub free-found : {p : ℕ} → p ≡ free_among words → p ≡ free_of (shelf_at words)
  free-found q = q ∙ among-free words n ∙ ap free_of (sym (at_count words n))

  pub placed : {p : ℕ} {key : Key} (h : Header) → key ≡ key_of h → p ≡ place_among words key → p < 4 → taken_in words p ≡ true
  placed {p} h e q l =
      let f : p ≡ place_of (shelf_at words) (key_of h) = place_found h e q in
      taken_of words p n l
      (rw f (place-taken (shelf_at words) (key_of h) (let l' : place_of (shelf_at words) (key_of h) < 4 = rw f at l in l')))

module _ (words store payload : List ℕ) where
  abbrev shelf : Shelf
  shelf = shelf_at words

  abbrev size : ℕ
  size = length payload

  -- a step writes what the answer of what it does says
  written-said : (s : Result Step Refusal) → Fits shelf store payload s → written words payload s ≡ words_by words payload (done shelf store payload s).said
  unfolding done written
  written-said (Err r) f = refl
  written-said (Ok Repeats) f = refl
  written-said (Ok (Begins p)) f = rw f.1
  written-said (Ok (BeginsAgain p)) f = rw f.2
  written-said (Ok (Adds p)) f = rw f.2

  -- what was decided, done
  pub decided :
      {r : Result Step Refusal}
      {x : Leaving}
      → step_of shelf store payload ≡ r
      → x ≡ leaving (done shelf store payload r).said (written words payload r) (done shelf store payload r).store
      → x ≡ offer_on words store payload
  unfolding offer_on
  decided e q =
      let s = step_of shelf store payload in
      q
      ∙ ap (λ r. leaving (done shelf store payload r).said (written words payload r) (done shelf store payload r).store) (sym e)
      ∙ ap (λ v. leaving (done shelf store payload s).said v (done shelf store payload s).store) (written-said s (step_fits shelf store payload))
      ∙ ap (λ a. leaving a.said (words_by words payload a.said) a.store) (step-done shelf store payload)

  pub repeated : step_of shelf store payload ≡ Ok Repeats → leaving (Ok Offered.Repeat) words store ≡ offer_on words store payload
  unfolding done written
  repeated e = decided e refl

  pub refused : (r : Refusal) → step_of shelf store payload ≡ Err r → leaving (Err r) words store ≡ offer_on words store payload
  unfolding done written
  refused r e = decided e refl

  -- the header that the payload has
  abbrev h : Header
  h = header_of payload

  module _ (p : ℕ) where
    abbrev Range : Type 0
    Range = InRange shelf store payload p

    pub begins-fit : step_of shelf store payload ≡ Ok (Begins p) → Range
    begins-fit e = (subst (Fits shelf store payload) e (step_fits shelf store payload)).0

    pub again-fit : step_of shelf store payload ≡ Ok (BeginsAgain p) → Held shelf store payload p
    again-fit e = subst (Fits shelf store payload) e (step_fits shelf store payload)

    pub adds_fit : step_of shelf store payload ≡ Ok (Adds p) → Held shelf store payload p
    adds_fit e = subst (Fits shelf store payload) e (step_fits shelf store payload)

    -- the numbers of a record that is not spoiled
    fits : Range → length words ≡ 96
    fits f = spoiled-count words f.unspoiled

    put-left : {n : ℕ} {left : List ℕ} (before : List ℕ) → n ≡ h.number → length before ≡ store_size → Range → left ≡ put_in before p n payload → left ≡ put before p h.number payload
    put-left before m w f e = e ∙ ap (λ k. put_in before p k payload) m ∙ put-at before p w f.place h.number f.number payload f.size

    held-left : {n : ℕ} {kept : List ℕ} (before : List ℕ) → n ≡ h.number → length before ≡ 96 → Range → kept ≡ held_put before p n size → kept ≡ held_in before p h.number size
    held-left before m w f e = e ∙ ap (λ k. held_put before p k size) m ∙ lent.held-put before w p f.place h.number f.number size

    pub added :
        {n : ℕ}
        {left kept : List ℕ}
        → step_of shelf store payload ≡ Ok (Adds p)
        → n ≡ h.number
        → kept ≡ held_put words p n size
        → left ≡ put_in store p n payload
        → leaving (Ok Offered.Added) kept left ≡ offer_on words store payload
    unfolding done written
    added e m k s = let f = (adds_fit e).0 in decided e (rw (held-left words m (fits f) f k, put-left store m f.whole f s))

    head-left : {key : Key} {head : List ℕ} → key ≡ key_of h → head ≡ head_put words p key h.version h.last → Range → head ≡ head_in words p (key_of h) h.version h.last
    head-left q d f = d ∙ ap (λ k. head_put words p k h.version h.last) q ∙ lent.head-put words (fits f) p f.place (key_of h) h.version h.last

    begun-left :
        {n : ℕ}
        {key : Key}
        {head kept : List ℕ}
        → n ≡ h.number
        → key ≡ key_of h
        → head ≡ head_put words p key h.version h.last
        → Range
        → kept ≡ held_put head p n size
        → kept ≡ begun_words words p h size
    begun-left {head = head} m q d f k =
        let e = head-left q d f in
        let w : length head ≡ 96 = ap length e ∙ lent.head-fits words (fits f) p f.place (key_of h) h.version h.last in
        held-left head m w f k ∙ ap (λ v. held_in v p h.number size) e

    pub began :
        {n mask : ℕ}
        {key : Key}
        {left head kept wiped : List ℕ}
        → step_of shelf store payload ≡ Ok (Begins p)
        → n ≡ h.number
        → key ≡ key_of h
        → head ≡ head_put words p key h.version h.last
        → mask ≡ 0
        → wiped ≡ wiped_where_in (bit mask) store p
        → kept ≡ held_put head p n size
        → left ≡ put_in wiped p n payload
        → leaving (Ok Offered.Began) kept left ≡ offer_on words store payload
    unfolding done written
    began {wiped = wiped} e m q d i v k s =
        let f = begins-fit e in
        let v' : wiped ≡ store = v ∙ ap (λ x. wiped_where_in (bit x) store p) i ∙ wiped-none store p f.whole f.place in
        let w : length wiped ≡ store_size = ap length v' ∙ f.whole in
        decided e (rw (begun-left m q d f k, put-left wiped m w f s, v'))

    pub began-again :
        {n mask : ℕ}
        {key : Key}
        {left head kept wiped : List ℕ}
        → step_of shelf store payload ≡ Ok (BeginsAgain p)
        → n ≡ h.number
        → key ≡ key_of h
        → head ≡ head_put words p key h.version h.last
        → mask ≡ mask_among words p
        → wiped ≡ wiped_where_in (bit mask) store p
        → kept ≡ held_put head p n size
        → left ≡ put_in wiped p n payload
        → leaving (Ok Offered.BeganAgain) kept left ≡ offer_on words store payload
    unfolding done written
    began-again {mask = mask} {wiped = wiped} e m q d i v k s =
        let f = (again-fit e).0 in
        let t' = taken_of words p (fits f) f.place (again-fit e).1 in
        let table : place_at shelf p ≡ table_in words p = rw (at_count words (fits f)) (table_at words p f.place t') in
        let masked : (j : ℕ) → j < sections → bit mask j ≡ holds (place_at shelf p) j
        = λ j l. ap (λ x. bit x j) (i ∙ among-mask words p (fits f) f.place) ∙ sym (held_at words p j l) ∙ ap (λ x. holds x j) (sym table) in
        let v' : wiped ≡ wiped_where (holds (place_at shelf p)) sections store p
        = v ∙ wiped-at store p f.whole f.place (bit mask) ∙ where-same (bit mask) (holds (place_at shelf p)) sections store p masked in
        let w : length wiped ≡ store_size = ap length v' ∙ where-length (holds (place_at shelf p)) store f.whole p f.place sections (omega arith) in
        decided e (rw (begun-left m q d f k, put-left wiped m w f s, v'))

  -- an offer on lent numbers is the offer to the record that they are
  pub offer-said : (offer_on words store payload).said ≡ (offer_of shelf store payload).said
  unfolding offer_on
  offer-said = refl

  pub offer-store : (offer_on words store payload).store ≡ (offer_of shelf store payload).store
  unfolding offer_on
  offer-store = refl

  -- the table id of a header that was read from bytes is a byte
  module _ (o : Octets payload) where
    byte-key : (key_of h).table < 256
    byte-key = rw (key-id payload) (o 0)

    begun-shelf : (p : ℕ) → InRange shelf store payload p
        → shelf_at (begun_words words p h size) ≡ with_place shelf p (begun_place h size)
    begun-shelf p f =
        lent.begun-lent words (fits p f) p f.place (key_of h) h.version h.last h.number size byte-key (from_proper _ _ _ _) f.number (omega (arith, f.least))

    done-shelf : (s : Result Step Refusal) → Fits shelf store payload s → shelf_at (written words payload s) ≡ (done shelf store payload s).shelf
    unfolding done written
    done-shelf (Err r) f = refl
    done-shelf (Ok Repeats) f = refl
    done-shelf (Ok (Begins p)) f = begun-shelf p f.0
    done-shelf (Ok (BeginsAgain p)) f = begun-shelf p f.0
    done-shelf (Ok (Adds p)) g =
        let f = g.0 in
        lent.held-lent words (fits p f) p f.place h.number f.number size (omega (arith, f.least)) (taken_of words p (fits p f) f.place g.1)

    pub offer-shelf : shelf_at (offer_on words store payload).words ≡ (offer_of shelf store payload).shelf
    unfolding offer_on
    offer-shelf =
        let s = step_of shelf store payload in
        let f = step_fits shelf store payload in
        ap (λ a. shelf_at (words_by words payload a.said)) (sym (step-done shelf store payload))
        ∙ ap shelf_at (sym (written-said s f))
        ∙ done-shelf s f
        ∙ ap (λ a. a.shelf) (step-done shelf store payload)
