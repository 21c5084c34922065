-- What an offer leaves, told in a number, by what the code found: a store of another size, a spoiled record, or the step.
--   no_store, no-count, all-spoiled, refused-lent, settled     a call that writes nothing, whole
--   unread, settles-refused, settles-repeat, repeat-lent   .. by the reading, and by the step
--   step-found, header-found                the step that was found is the one that the writing goes by
--   wrote-added, wrote-begun, wrote-again   a call that writes
use mathlib.Core.Path.{◌≡◌, refl, sym, ap, ◌∙◌}
use mathlib.Core.List.{List}
use mathlib.Core.Bool.{true, false}
use Prim.Native.Nat.{ℕ}
use native.Mathlib.Omega.{arith}
use lib.ListN.{length}
use borrow.Author.Tests.{eq-eqb, ne_eqb}
use Rattle.base.specs.Bits.{bit}
use Rattle.base.proofs.Cases.{by}
use Rattle.answers.specs.Answers.{lent}
use Rattle.berth.specs.Berth.{store_size}
use Rattle.berth.specs.Calls.{put_in, wiped_where_in}
use Rattle.section.specs.Section.{read_of, header_of}
use Rattle.section.specs.declared.Header.{Header}
use Rattle.std.specs.Prelude.{Result, Ok, Err}
use Rattle.refusal.specs.declared.Refusal.{Refusal}
use Rattle.refusal.specs.declared.Refusal.TheVariants.{StoreSize, ShelfSpoiled}
use Rattle.section.proofs.Laws.{sound-facts}
use Rattle.shelf.specs.Record.{Shelf, key_of, spoiled_of}
use Rattle.shelf.specs.Layout.{shelf_at}
use Rattle.shelf.proofs.Numbers.{no_record_lem}
use Rattle.shelf_write.specs.Calls.{held_put, head_put}
use Rattle.shelf_offer.specs.declared.Offered.{Offered}
use Rattle.shelf_offer.specs.declared.Step.{Step}
use Rattle.shelf_offer.specs.declared.Step.TheVariants.{Repeats, Begins, BeginsAgain, Adds}
use Rattle.shelf.specs.Calls.{mask_among}
use Rattle.refusal.specs.Refusal.{number, number_of}
use Rattle.shelf_offer.specs.Steps.{sound_step, step_of}
use Rattle.shelf_check.specs.Unless.{unless_spoiled}
use Rattle.shelf_offer.specs.On.{leaving, offer_on}
use Rattle.shelf_offer.specs.Answer.{offered_code, offer_lent}
use Rattle.shelf_offer.proofs.On.{repeated, refused, added, began, began-again}
use Rattle.shelf_offer.proofs.Steps.{step-sound, step-refused}
use Rattle.shelf_offer.proofs.Told.{told}

-- no refusal is an answer
never : {A : Type 0} {r : Refusal} {a : A} → ◌≡◌ {A = Result A Refusal} (Err r) (Ok a) → ⊥
never e = let z : ◌≡◌ {A = ℕ} 0 1 = cc in omega arith

-- the numbers with a table begun in place p
abbrev begun_put : List ℕ → ℕ → Header → ℕ → List ℕ
begun_put words p h size = held_put (head_put words p (key_of h) h.version h.last) p h.number size

module _ (words store payload : List ℕ) where
  abbrev shelf : Shelf
  shelf = shelf_at words

  step-size : (length store ≡ store_size → ⊥) → step_of shelf store payload ≡ Err StoreSize
  unfolding step_of
  step-size d = rw (ne_eqb (length store) store_size d)

  step-spoiled : length store ≡ store_size → spoiled_of shelf ≡ true → step_of shelf store payload ≡ Err ShelfSpoiled
  unfolding step_of
  step-spoiled w s = rw (eq-eqb (length store) store_size w, s)

  pub no_store : {code : ℕ} → (length store ≡ store_size → ⊥) → code ≡ offered_code (Err StoreSize) → lent code words store ≡ offer_lent words store payload
  no_store d e = told words store payload (refused words store payload StoreSize (step-size d)) e

  pub all-spoiled : {code : ℕ} → length store ≡ store_size → spoiled_of shelf ≡ true → code ≡ offered_code (Err ShelfSpoiled) → lent code words store ≡ offer_lent words store payload
  all-spoiled w s e = told words store payload (refused words store payload ShelfSpoiled (step-spoiled w s)) e

  pub no-count : {code : ℕ} → length store ≡ store_size → (length words ≡ 96 → ⊥) → code ≡ offered_code (Err ShelfSpoiled) → lent code words store ≡ offer_lent words store payload
  no-count w d e = all-spoiled w (no_record_lem words d) e

  settled :
      {code number : ℕ}
      (answer : Result Offered Refusal)
      → length store ≡ store_size
      → number ≡ offered_code answer
      → code ≡ unless_spoiled (spoiled_of shelf) number
      → (spoiled_of shelf ≡ false → leaving answer words store ≡ offer_on words store payload)
      → lent code words store ≡ offer_lent words store payload
  unfolding unless_spoiled
  settled answer w q e f =
      by (spoiled_of shelf)
      (λ s. all-spoiled w s (rw s at e))
      (λ s. told words store payload (f s) ((rw s at e) ∙ q))

  pub refused-lent : {code : ℕ} (r : Refusal) → step_of shelf store payload ≡ Err r → code ≡ offered_code (Err r) → lent code words store ≡ offer_lent words store payload
  refused-lent r s e = told words store payload (refused words store payload r s) e

  -- the header that was read again
  pub read_is : {r : Result Header Refusal} {h : Header} → r ≡ read_of payload → r ≡ Ok h → read_of payload ≡ Ok (header_of payload) → h ≡ header_of payload
  read_is {h = h} e q s =
      let k : ◌≡◌ {A = Result Header Refusal} (Ok h) (Ok (header_of payload)) = sym q ∙ e ∙ s in
      cc

  pub begun-words :
      (p : ℕ)
      {n : ℕ}
      {h : Header}
      {head kept : List ℕ}
      → h ≡ header_of payload
      → head ≡ head_put words p h.key h.version h.last
      → n ≡ h.number
      → kept ≡ held_put head p n (length payload)
      → kept ≡ begun_put words p (header_of payload) (length payload)
  begun-words p e d m q = q ∙ rw (d, m, e)

  pub begun-store :
      (p mask : ℕ)
      {n : ℕ}
      {h : Header}
      {wiped left : List ℕ}
      → h ≡ header_of payload
      → wiped ≡ wiped_where_in (bit mask) store p
      → n ≡ h.number
      → left ≡ put_in wiped p n payload
      → left ≡ put_in (wiped_where_in (bit mask) store p) p (header_of payload).number payload
  begun-store p mask e d m q = q ∙ rw (d, m, e)

  -- a payload that is no sound section
  pub unread :
      {code : ℕ}
      (r : Refusal)
      → length store ≡ store_size
      → read_of payload ≡ Err r
      → code ≡ unless_spoiled (spoiled_of shelf) (number_of (read_of payload))
      → lent code words store ≡ offer_lent words store payload
  unread {code} r w e c =
      let d : code ≡ unless_spoiled (spoiled_of shelf) (number r) = c ∙ ap (λ x. unless_spoiled (spoiled_of shelf) (number_of x)) e in
      settled (Err r) w refl d (λ u. refused words store payload r (sym (step-refused shelf store payload w u r e)))

  -- the step that was found is the one that the writing goes by
  module _ (w : length store ≡ store_size) (header : Header) (e : read_of payload ≡ Ok header) {r : Result Step Refusal} (f : spoiled_of shelf ≡ false → r ≡ sound_step shelf store payload header) where
    pub step-found : {t : Result Step Refusal} → r ≡ t → spoiled_of shelf ≡ false → step_of shelf store payload ≡ t
    step-found q u = sym (step-sound shelf store payload w u header e (f u)) ∙ q

    -- a step that writes nothing settles the offer
    pub settles-refused : {code number : ℕ} (x : Refusal) → r ≡ Err x → number ≡ offered_code (Err x) → code ≡ unless_spoiled (spoiled_of shelf) number
        → lent code words store ≡ offer_lent words store payload
    settles-refused x q n c = settled (Err x) w n c (λ u. refused words store payload x (step-found q u))

    pub settles-repeat : {code number : ℕ} → r ≡ Ok Repeats → number ≡ offered_code (Ok Offered.Repeat) → code ≡ unless_spoiled (spoiled_of shelf) number
        → lent code words store ≡ offer_lent words store payload
    settles-repeat q n c = settled (Ok Offered.Repeat) w n c (λ u. repeated words store payload (step-found q u))

    pub header-found : read_of payload ≡ Ok (header_of payload)
    header-found = e ∙ ap Ok (sound-facts payload header e).header

  pub repeat-lent : {code : ℕ} → step_of shelf store payload ≡ Ok Repeats → code ≡ offered_code (Ok Offered.Repeat) → lent code words store ≡ offer_lent words store payload
  repeat-lent e c = told words store payload (repeated words store payload e) c

  module _ (p : ℕ) where
    pub wrote-added :
        {n code : ℕ}
        {left kept : List ℕ}
        → step_of shelf store payload ≡ Ok (Adds p)
        → n ≡ (header_of payload).number
        → kept ≡ held_put words p n (length payload)
        → left ≡ put_in store p n payload
        → code ≡ offered_code (Ok Offered.Added)
        → lent code kept left ≡ offer_lent words store payload
    wrote-added e m k l c = told words store payload (added words store payload p e m k l) c

    pub wrote-begun :
        {code : ℕ}
        {left kept : List ℕ}
        → step_of shelf store payload ≡ Ok (Begins p)
        → kept ≡ begun_put words p (header_of payload) (length payload)
        → left ≡ put_in (wiped_where_in (bit 0) store p) p (header_of payload).number payload
        → code ≡ offered_code (Ok Offered.Began)
        → lent code kept left ≡ offer_lent words store payload
    wrote-begun e k l c = told words store payload (began words store payload p e refl refl refl refl refl k l) c

    pub wrote-again :
        {mask code : ℕ}
        {left kept : List ℕ}
        → step_of shelf store payload ≡ Ok (BeginsAgain p)
        → mask ≡ mask_among words p
        → kept ≡ begun_put words p (header_of payload) (length payload)
        → left ≡ put_in (wiped_where_in (bit mask) store p) p (header_of payload).number payload
        → code ≡ offered_code (Ok Offered.BeganAgain)
        → lent code kept left ≡ offer_lent words store payload
    wrote-again e m k l c = told words store payload (began-again words store payload p e refl refl refl m refl k l) c
