-- The file of a place, as the code sizes and writes it, and the answer of saving.
--   file-size                                 its front takes two bytes, one for the form and one for the count
--   room-form, room-count, ready-sections     there is room for each part
--   saved-15, saved-done                      the answer for a place
--   file-most                                 the file has at most 16,418 bytes
--   save-refused, save-held                   the answer for a key
use mathlib.Core.Path.{◌≡◌, refl, sym, ap, ◌∙◌}
use mathlib.Core.List.{List, ◌++◌, append_assoc}
use Prim.Native.Nat.{ℕ, zero, suc, ◌+◌, ◌*◌, ◌<◌, ◌≤◌}
use native.Mathlib.Nat.{zero-add}
use native.Mathlib.Omega.{arith}
use lib.Dec.{eqb}
use lib.ListN.{length, get_or, drop, length-append}
use borrow.Author.Tests.{lt-ltb, le-ltb}
use Rattle.base.specs.Choice.{first}
use Rattle.base.proofs.Cases.{by}
use Rattle.berth.specs.Berth.{berth_size, places, sections, store_size, laid}
use Rattle.berth.proofs.Laid.{laid-length, laid_beside}
use Rattle.shelf.specs.Record.{place_at}
use Rattle.key.specs.declared.Key.{Key}
use Rattle.shelf.specs.Record.{Shelf}
use Rattle.shelf_ask.specs.Ask.{holding_of}
use Rattle.std.specs.Prelude.{Ok, Err}
use Rattle.refusal.specs.declared.Refusal.{Refusal}
use Rattle.refusal.specs.declared.Refusal.TheVariants.{OutputTooSmall}
use Rattle.shelf_ask.proofs.Held.{held, asked-refused, asked-held}
use Rattle.file_number.specs.Number.{spelt}
use Rattle.file_number.proofs.Bounds.{spelt-1-long, spelt-2-long}
use Rattle.file.specs.Layout.{form, largest_file, listed, file_of}
use Rattle.shelf_save.specs.Sizes.{size_of, count_of, size_below, count_below, Berthed}
use Rattle.shelf_save.specs.Save.{Save, held_below, place_file, save, refuse, unsaved, written, place_saved, saved_file, save_of}
use Rattle.shelf_save.proofs.Listing.{Stands, as-stands, Ready, small, held-count, listed-size}

-- a place, with its count and its bytes as they were added up
pub record Sized (lengths store : List ℕ) (p count bytes : ℕ) : Type 0 where
  pub stands : Stands lengths store p
  pub counted : count ≡ count_below sections lengths
  pub most : count ≤ sections
  pub sized : bytes ≡ size_below sections lengths

pub as-sized :
    {lengths store : List ℕ}
    {p count bytes : ℕ}
    → (p < places) × (length store ≡ store_size)
    → Berthed lengths
    → (count ≡ count_below sections lengths) × (bytes ≡ size_below sections lengths)
    → count ≤ sections
    → Sized lengths store p count bytes
as-sized w b e m = record { stands = as-stands w b; counted = e.0; most = m; sized = e.1 }

module _ {lengths store : List ℕ} {p count bytes : ℕ} (z : Sized lengths store p count bytes) where
  abbrev body : List ℕ
  body = listed (held_below sections lengths store p)

  body-size : length body ≡ bytes
  body-size = listed-size z.stands sections (omega arith) ∙ sym z.sized

  form-size : length (spelt form) ≡ 1
  form-size = spelt-1-long form (omega arith)

  count-size : length (spelt count) ≡ 1
  count-size = spelt-1-long count (omega (arith, z.most))

  in_parts : place_file lengths store p ≡ (spelt form ++ spelt count) ++ body
  unfolding place_file file_of
  in_parts = rw (held-count lengths store p sections, ← z.counted) (sym (append_assoc (spelt form) (spelt count) body))

  front-size : length (spelt form ++ spelt count) ≡ 2
  front-size = rw (length-append, form-size, count-size)

  pub file-size : length (place_file lengths store p) ≡ 2 + bytes
  file-size = ap length in_parts ∙ rw (length-append, front-size, body-size)

  pub saved-15 : (out : List ℕ) → length out < 2 + bytes → save (Err OutputTooSmall) out ≡ place_saved lengths store p out
  unfolding place_saved
  saved-15 out h = rw (file-size, lt-ltb (length out) (2 + bytes) h)

  -- the form, the count and the sections, one after another
  module _ (out : List ℕ) (room : 2 + bytes ≤ length out) where
    pub room-form : 0 + length (spelt form) ≤ length out
    room-form = omega (arith, form-size)

    module _ {at : ℕ} {mid : List ℕ} (a : at ≡ 0 + length (spelt form)) (m : mid ≡ laid out 0 (spelt form)) where
      mid-length : length mid ≡ length out
      mid-length = ap length m ∙ laid-length out 0 (spelt form) room-form

      pub room-count : at + length (spelt count) ≤ length mid
      room-count = omega (arith, mid-length, form-size, count-size)

      module _ {from : ℕ} {late : List ℕ} (f : from ≡ at + length (spelt count)) (l : late ≡ laid mid at (spelt count)) where
        late-front : late ≡ laid out 0 (spelt form ++ spelt count)
        late-front = l ∙ rw (m, a) (laid_beside out 0 (spelt form) (omega arith) (spelt count) room-form)

        late-length : length late ≡ length out
        late-length = ap length late-front ∙ laid-length out 0 (spelt form ++ spelt count) (omega (arith, front-size))

        pub ready-sections : Ready lengths store p late from
        ready-sections =
            record {
              stands = z.stands;
              fits = omega (arith, late-length, form-size, count-size, z.sized);
            }

        pub saved-done : {end : List ℕ} → end ≡ laid late from body → save (Ok (2 + bytes)) end ≡ place_saved lengths store p out
        unfolding place_saved laid
        saved-done e =
            let front = spelt form ++ spelt count in
            let s : from ≡ 0 + length front = omega (arith, front-size, form-size, count-size) in
            let all : laid late from body ≡ laid out 0 (place_file lengths store p) =
            rw (late-front, s) (laid_beside out 0 front (omega arith) body (omega (arith, front-size))) ∙ ap (laid out 0) (sym in_parts) in
            let n : 0 + length (place_file lengths store p) ≡ length (place_file lengths store p) = zero-add _ in
            rw (← file-size, le-ltb (length out) (length (place_file lengths store p)) (rw file-size room))
            (ap (save (Ok (length (place_file lengths store p))))
            (e ∙ all ∙ ap (λ k. place_file lengths store p ++ drop k out) n))

-- a section takes at most 1,026 bytes of the file
most-size : (lengths : List ℕ) (k : ℕ) → ((n : ℕ) → n < k → get_or lengths n 0 ≤ berth_size) → size_below k lengths ≤ 1026 * k
unfolding size_below size_of
most-size lengths zero h = omega arith
most-size lengths (suc k) h =
    let size = get_or lengths k 0 in
    let ih : size_below k lengths ≤ 1026 * k = most-size lengths k (λ n l. h n (omega arith)) in
    let l : size ≤ berth_size = h k (omega arith) in
    let two : length (spelt size) ≤ 2 = spelt-2-long size (omega arith) in
    by (eqb size 0) (λ t. rw t (omega arith)) (λ f. rw f (omega arith))

most-count : (lengths : List ℕ) (k : ℕ) → count_below k lengths ≤ k
unfolding count_below count_of
most-count lengths zero = omega arith
most-count lengths (suc k) =
    let ih : count_below k lengths ≤ k = most-count lengths k in by (eqb (get_or lengths k 0) 0) (λ t. rw t (omega arith)) (λ f. rw f (omega arith))

pub file-most : {lengths store : List ℕ} {p : ℕ} → Stands lengths store p → length (place_file lengths store p) ≤ largest_file
file-most {lengths} {store} {p} s =
    let z : Sized lengths store p (count_below sections lengths) (size_below sections lengths) =
    record { stands = s; counted = refl; most = most-count lengths sections; sized = refl } in
    let b : size_below sections lengths ≤ 1026 * sections = most-size lengths sections (small s) in
    rw (file-size z) (omega arith)

module _ (shelf : Shelf) (store : List ℕ) (key : Key) where
  module _ (p : ℕ) (e : holding_of shelf (length store) key ≡ Ok p) where
    pub held-stands : Stands (place_at shelf p).lengths store p
    unfolding Berthed
    held-stands =
        let w = held shelf (length store) key p e in record { whole = w.whole; place = w.place; berthed = w.most }

    pub file-in : saved_file shelf store key ≡ place_file (place_at shelf p).lengths store p
    unfolding saved_file
    file-in = ap (λ q. place_file (place_at shelf q).lengths store q) (held shelf (length store) key p e).at

  module _ (out : List ℕ) where
    pub save-refused : (r : Refusal) → holding_of shelf (length store) key ≡ Err r → save (Err r) out ≡ save_of shelf store key out
    unfolding save_of
    save-refused r e =
        sym
        (asked-refused (refuse out) (unsaved (saved_file shelf store key) out) (written (saved_file shelf store key) out) shelf (length store) key r e)

    pub save-held : (p : ℕ) (e : holding_of shelf (length store) key ≡ Ok p)
        → place_saved (place_at shelf p).lengths store p out ≡ save_of shelf store key out
    unfolding save_of place_saved
    save-held p e =
        sym
        (asked-held (refuse out) (unsaved (saved_file shelf store key) out) (written (saved_file shelf store key) out) shelf (length store) key p e
        ∙ ap (λ file. first (refuse out) (unsaved file out) (written file out)) (file-in p e))

    -- by the lengths that were read
    pub save-by : (p : ℕ) (e : holding_of shelf (length store) key ≡ Ok p) {x : Save} {lengths : List ℕ}
        → lengths ≡ (place_at shelf p).lengths → x ≡ place_saved lengths store p out → x ≡ save_of shelf store key out
    save-by p e q s = s ∙ ap (λ l. place_saved l store p out) q ∙ save-held p e
