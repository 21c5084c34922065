-- The places of an item's parts, as the code comes by them.
--   up-past, up_ends                      what a place unless it lies behind the end says
--   name-at, count_at, loop-run           by the bytes that the flags include, and by the name's length
--   lies-cut, lies-past, lies-there       whether the item's parts lie in the payload
--   lies-item, lies-none                  and what stands there then
use mathlib.Core.Path.{◌≡◌, refl, sym, ap, ◌∙◌}
use mathlib.Core.List.{List}
use Prim.Native.Nat.{ℕ, ◌+◌, ◌*◌, ◌/◌, ◌<◌, ◌≤◌}
use native.Mathlib.Omega.{arith}
use lib.Dec.{ltb}
use lib.ListN.{length}
use borrow.Author.Tests.{lt-ltb, le-ltb, ltb-true, ltb-false}
use Rattle.base.specs.Bytes.{byte}
use Rattle.base.proofs.Cases.{by}
use Rattle.std.specs.Prelude.{Ok, Err, Some, None}
use Rattle.refusal.specs.declared.Refusal.TheVariants.{ProgrammePassesEnd}
use Rattle.programme.specs.Field.{number}
use Rattle.programme.specs.Run.{Run, run_of}
use Rattle.programme.specs.Reading.{item_run, item_at}
use Rattle.programme.specs.Table.{flags, content_name_length_at, num_content_descriptors_at, content_descriptors_at}
use Rattle.programme_items.specs.Parts.{up_to, included, lies_of}
use Rattle.programme_items.specs.declared.Parts.{Parts}
use Rattle.programme.proofs.Runs.{never_ends, run_lies}
use Rattle.programme.proofs.Items.{item_to, item-cut, item-past, item-reads}

module _ (size place : ℕ) where
  pub up-past : None ≡ up_to size place → size < place
  unfolding up_to
  up-past e =
      by (ltb size place) (λ t. ltb-true _ _ t) (λ f. let h : None ≡ Some place = e ∙ rw f in never_ends place h)

  pub up_ends : (end : ℕ) → Some end ≡ up_to size place → (end ≡ place) × (place ≤ size)
  unfolding up_to
  up_ends end e =
      by (ltb size place)
      (λ t. let h : Some end ≡ None = e ∙ rw t in never_ends end (sym h))
      (λ f. let h : Some end ≡ Some place = e ∙ rw f in (cc, ltb-false _ _ f))

-- the two bytes of the flags, and the place behind the fields that they include
pub record Named (s : List ℕ) (at two named : ℕ) : Type 0 where
  pub flags : two ≡ number s (at + 4) 2
  pub place : named ≡ at + 6 + included (two / 64)

module _ {s : List ℕ} {at two named : ℕ} (v : Named s at two named) where
  pub name-at : named ≡ content_name_length_at s at
  name-at = v.place ∙ rw v.flags (omega arith)

  module _ {long : ℕ} (n : long ≡ byte s named) where
    pub count_at : named + 1 + long ≡ num_content_descriptors_at s at
    count_at = ap (λ m. named + 1 + m) n ∙ ap (λ p. p + 1 + byte s p) name-at

    pub loop-run : run_of (byte s (named + 1 + long)) s (named + 1 + long + 1) ≡ item_run s at
    loop-run = ap (λ p. run_of (byte s p) s (p + 1)) count_at

module _ (s : List ℕ) (at : ℕ) where
  pub lies-cut : length s < content_descriptors_at s at → None ≡ lies_of s at
  lies-cut l = rw (lt-ltb (length s) (content_descriptors_at s at) l)

  pub lies-past : item_run s at ≡ None → None ≡ lies_of s at
  lies-past e = by (ltb (length s) (content_descriptors_at s at)) (λ t. rw t) (λ f. rw (f, e))

  module _ (l : content_descriptors_at s at ≤ length s) (end : ℕ) (e : item_run s at ≡ Some end) where
    pub lies-there : {two named long : ℕ} (v : Named s at two named) → long ≡ byte s named
        → Some (record { flags = two / 64; named = named; counted = named + 1 + long; next = end }) ≡ lies_of s at
    lies-there v n = rw (count_at v n, name-at v, v.flags, le-ltb (length s) (content_descriptors_at s at) l, e)

  -- where its parts lie
  pub record There (p : Parts) : Type 0 where
    pub fits : content_descriptors_at s at ≤ length s
    pub run : item_run s at ≡ Some p.next
    pub low : content_descriptors_at s at ≤ p.next
    pub high : p.next ≤ length s
    pub flags-are : p.flags ≡ flags s at
    pub named-is : p.named ≡ content_name_length_at s at
    pub counted_is : p.counted ≡ num_content_descriptors_at s at

  pub parts-there : (p : Parts) → Some p ≡ lies_of s at → There p
  parts-there p e =
      by (ltb (length s) (content_descriptors_at s at))
      (λ t. let h : Some p ≡ None = e ∙ rw t in apart h)
      (λ f. let fits : content_descriptors_at s at ≤ length s = ltb-false _ _ f in go fits f (item_run s at) refl)
    where
      apart : {P : Type 0} → Some p ≡ None → P
      apart h = absurd (let z : ◌≡◌ {A = ℕ} 0 1 = cc in omega arith)

      go : content_descriptors_at s at ≤ length s → ltb (length s) (content_descriptors_at s at) ≡ ltb 1 0 → (x : Run) → item_run s at ≡ x → There p
      go fits f None q = let h : Some p ≡ None = e ∙ rw (f, q) in apart h
      go fits f (Some end) q =
          let h : Some p ≡ Some (record { flags = flags s at; named = content_name_length_at s at; counted = num_content_descriptors_at s at; next = end }) = e ∙ rw (f, q) in
          let same : p ≡ record { flags = flags s at; named = content_name_length_at s at; counted = num_content_descriptors_at s at; next = end } = cc in
          let ends : p.next ≡ end = ap (λ (y : Parts). y.next) same in
          let lies = run_lies _ s (content_descriptors_at s at) end fits q in
          let low : content_descriptors_at s at + 2 * _ ≤ end = lies.0 in
          let high : end ≤ length s = lies.1 in
          record {
            fits = fits;
            run = q ∙ ap Some (sym ends);
            low = omega arith;
            high = omega arith;
            flags-are = ap (λ (y : Parts). y.flags) same;
            named-is = ap (λ (y : Parts). y.named) same;
            counted_is = ap (λ (y : Parts). y.counted) same;
          }

  pub lies-item : 17 ≤ at → (p : Parts) → Some p ≡ lies_of s at → Ok (Some (item_to s at p.next)) ≡ item_at s at
  lies-item a p e = let t = parts-there p e in item-reads s at a t.fits p.next t.run

  pub lies-none : None ≡ lies_of s at → Err ProgrammePassesEnd ≡ item_at s at
  lies-none e =
      by (ltb (length s) (content_descriptors_at s at))
      (λ t. item-cut s at (ltb-true _ _ t))
      (λ f. go f (item_run s at) refl)
    where
      go : ltb (length s) (content_descriptors_at s at) ≡ ltb 1 0 → (x : Run) → item_run s at ≡ x → Err ProgrammePassesEnd ≡ item_at s at
      go f None q = item-past s at q
      go f (Some end) q =
          let h : None ≡ Some (record { flags = flags s at; named = content_name_length_at s at; counted = num_content_descriptors_at s at; next = end }) = e ∙ rw (f, q) in
          absurd (let z : ◌≡◌ {A = ℕ} 0 1 = cc in omega arith)
