-- No two lists have the same bytes (`specs/Theorems.antt` has the words): each field is read out of them.
--   one_list
use mathlib.Core.Path.{◌≡◌, refl, sym, ap, ◌∙◌}
use mathlib.Core.Bool.{Bool}
use mathlib.Core.List.{List, [], ◌∷◌, ◌++◌, append-nil}
use Prim.Native.Nat.{ℕ, zero, suc, ◌+◌, ◌*◌, ◌/◌, ◌%◌, ◌^◌, ◌<◌}
use native.Mathlib.Omega.{arith}
use lib.Arith.{digits_mod, digits_div}
use lib.Dec.{eqb}
use lib.ListN.{length, take}
use lib.Seq.{take-append_seam}
use Rattle.base.specs.Bytes.{byte, part}
use Rattle.programme.specs.Field.{number}
use Rattle.programme.specs.Table.{flags, playback_length_included, playback_delay_included, expiration_included, content_size_included}
use Rattle.programme.specs.Table.{content_name_length, num_content_descriptors, content_descriptors_at}
use Rattle.programme_laws.specs.Layout.{Descriptor, loop_bytes, Optional, included, optional_bytes, FitOptional, Content, flags_of, name_bytes, content_then, content_bytes, contents_then, Body, body_of, FitContent, FitContents, FitBody, past_all}
use Rattle.programme_laws.specs.Theorems.{OneList}
use Rattle.programme_laws.proofs.From.{From, next, byte_of, first_byte}
use Rattle.programme_laws.proofs.Digits.{field-says}
use Rattle.programme_laws.proofs.Loops.{loop-more, step-behind}
use Rattle.programme_laws.proofs.Optionals.{optional_from}
use Rattle.programme_laws.proofs.Contents.{content_at, size-on, expires-on, delay-on, playback-on, linkage-says, at-flags, flags-say, at-playback, is-playback, at-delay, is-delay, at-expires, is-expires, at_size, is-size, at_name, name-says, count-says, at-loop, item-behind, flags-small}
use Rattle.programme_laws.proofs.Contents.{flag-updates, flag-fragment, flag-security, flag-master, flag-internet, flag-broadcast}
use Rattle.programme_laws.proofs.Whole.{items_on, minutes-on, start-on, at-service, at-start, at-minutes, at_first, items-say, all-behind}

-- so many descriptors from a place
abbrev loop_from : ℕ → List ℕ → ℕ → List Descriptor
loop_from zero s at = []
loop_from (suc n) s at = record { tag = byte s at; content = part s (at + 2) (byte s (at + 1)) } ∷ loop_from n s (at + 2 + byte s (at + 1))

-- the bytes from a place are the first of those that stand there
part-is : {s : List ℕ} {at : ℕ} (a r : List ℕ) (n : ℕ) → From s at (a ++ r) → n ≡ length a → part s at n ≡ a
part-is a r n f e = ap (take n) f.rest ∙ rw e (take-append_seam a r)

loop-is : (ds : List Descriptor) {s : List ℕ} {at : ℕ} (r : List ℕ) → From s at (loop_bytes ds ++ r) → loop_from (length ds) s at ≡ ds
loop-is [] r f = refl
loop-is (d ∷ ds) {s} {at} r f =
    let g : From s at (d.tag ∷ length d.content ∷ (d.content ++ (loop_bytes ds ++ r))) = rw (loop-more d ds r) at f in
    let tag : byte s at ≡ d.tag = first_byte _ _ g in
    let size : byte s (at + 1) ≡ length d.content = byte_of g 1 in
    let two : at + 1 + 1 ≡ at + 2 = omega arith in
    let content : part s (at + 2) (byte s (at + 1)) ≡ d.content
    = part-is d.content (loop_bytes ds ++ r) (byte s (at + 1)) (rw two at (next _ _ (next _ _ g))) size in
    let rest : loop_from (length ds) s (at + 2 + byte s (at + 1)) ≡ ds = rw size (loop-is ds r (step-behind d (loop_bytes ds ++ r) g)) in
    rw (tag, content, rest)

opt-is : (n bits : ℕ) (t : Bool) (o : Optional) {s : List ℕ} {at : ℕ} (r : List ℕ) → From s at (optional_bytes n bits o ++ r)
    → t ≡ eqb (included o) 1 → FitOptional n bits o → optional_from t n bits s at ≡ o
unfolding optional_bytes
opt-is n bits t Optional.absent r f e h = rw e
opt-is n bits t (Optional.there reserved value) r f e h =
    rw (e, field-says n (reserved * 2 ^ bits + value) r f h.1, digits_div reserved h.0, digits_mod reserved h.0)

abbrev content_from : List ℕ → ℕ → Content
content_from s at = content_at s at (loop_from (num_content_descriptors s at) s (content_descriptors_at s at))

content-is : (c : Content) (h : FitContent c) {s : List ℕ} {at : ℕ} (r : List ℕ) → From s at (content_then c r) → content_from s at ≡ c
content-is c h {s} {at} r f =
    let flagged : flags s at ≡ flags_of c = flags-say c h r f in
    let spare : number s (at + 4) 2 % 2 ^ 6 ≡ c.reserved
    = (let small : flags_of c < 1024 = flags-small c h in
    let fits : c.reserved < 2 ^ 6 = h.reserved in
    let both : number s (at + 4) 2 ≡ flags_of c * 2 ^ 6 + c.reserved = field-says 2 (flags_of c * 2 ^ 6 + c.reserved) (playback-on c r) (at-flags c h r f) (omega arith) in
    omega arith) in
    rw (
      linkage-says c h r f,
      ap (λ x. x / 2 ^ 9 % 2) flagged ∙ flag-updates c h,
      ap (λ x. x / 2 ^ 8 % 2) flagged ∙ flag-fragment c h,
      ap (λ x. x / 2 ^ 7 % 2) flagged ∙ flag-security c h,
      ap (λ x. x / 2 ^ 6 % 2) flagged ∙ flag-master c h,
      opt-is 3 20 (playback_length_included s at) c.playback (delay-on c r) (at-playback c h r f) (is-playback c h r f) h.playback,
      opt-is 3 20 (playback_delay_included s at) c.delay (expires-on c r) (at-delay c h r f) (is-delay c h r f) h.delay,
      opt-is 4 32 (expiration_included s at) c.expires (size-on c r) (at-expires c h r f) (is-expires c h r f) h.expires,
      opt-is 5 40 (content_size_included s at) c.size (name_bytes c r) (at_size c h r f) (is-size c h r f) h.size,
      ap (λ x. x / 2 % 2) flagged ∙ flag-internet c h,
      ap (λ x. x % 2) flagged ∙ flag-broadcast c h,
      spare,
      part-is c.name _ (content_name_length s at) (next _ _ (at_name c h r f)) (name-says c h r f),
      ap (λ n. loop_from n s (content_descriptors_at s at)) (count-says c h r f) ∙ loop-is c.descriptors r (at-loop c h r f),
    )

-- so many items from a place
abbrev contents_from : ℕ → List ℕ → ℕ → List Content
contents_from zero s at = []
contents_from (suc n) s at = content_from s at ∷ contents_from n s (at + length (content_bytes (content_from s at)))

contents-is : (cs : List Content) → FitContents cs → {s : List ℕ} {at : ℕ} (r : List ℕ) → From s at (contents_then cs r) → contents_from (length cs) s at ≡ cs
unfolding contents_then
contents-is [] h r f = refl
contents-is (c ∷ cs) h {s} {at} r f =
    let here : content_from s at ≡ c = content-is c h.0 (contents_then cs r) f in
    let rest : contents_from (length cs) s (at + length (content_bytes (content_from s at))) ≡ cs
    = rw here (contents-is cs h.1 r (item-behind c h.0 (contents_then cs r) f)) in
    rw rest (ap (λ x. x ∷ cs) here)

abbrev body_from : List ℕ → Body
body_from s =
    record {
      service = number s 8 2;
      start = number s 10 4;
      reserved = number s 14 2 / 2 ^ 11;
      minutes = number s 14 2 % 2 ^ 11;
      items = contents_from (byte s 16) s 17;
      descriptors = loop_from (byte s (past_all 17 (contents_from (byte s 16) s 17))) s (past_all 17 (contents_from (byte s 16) s 17) + 1);
    }

body_is : (b : Body) → FitBody b → {s : List ℕ} → From s 8 (body_of b) → body_from s ≡ b
body_is b h {s} f =
    let spare : b.reserved < 2 ^ 5 = h.reserved in
    let span : b.minutes < 2 ^ 11 = h.minutes in
    let service : number s 8 2 ≡ b.service = field-says 2 b.service (start-on b) (at-service b h f) h.service in
    let start : number s 10 4 ≡ b.start = field-says 4 b.start (minutes-on b) (at-start b h f) h.start in
    let both : number s 14 2 ≡ b.reserved * 2 ^ 11 + b.minutes = field-says 2 (b.reserved * 2 ^ 11 + b.minutes) (items_on b) (at-minutes b h f) (omega arith) in
    let reserved : number s 14 2 / 2 ^ 11 ≡ b.reserved = omega arith in
    let minutes : number s 14 2 % 2 ^ 11 ≡ b.minutes = omega arith in
    let items : contents_from (byte s 16) s 17 ≡ b.items
    = ap (λ n. contents_from n s 17) (items-say b h f) ∙ contents-is b.items h.items _ (at_first b h f) in
    let behind = all-behind b.items 17 _ (at_first b h f) h.items (omega arith) in
    let g : From s (past_all 17 b.items) (length b.descriptors ∷ (loop_bytes b.descriptors ++ []))
    = rw (← append-nil (loop_bytes b.descriptors)) at behind.0 in
    let loop : loop_from (byte s (past_all 17 b.items)) s (past_all 17 b.items + 1) ≡ b.descriptors
    = ap (λ n. loop_from n s (past_all 17 b.items + 1)) (first_byte _ _ g) ∙ loop-is b.descriptors [] (next _ _ g) in
    rw (service, start, reserved, minutes, items, loop)

pub one_list : OneList
one_list b c h k e =
    let s : List ℕ = 0 ∷ 0 ∷ 0 ∷ 0 ∷ 0 ∷ 0 ∷ 0 ∷ 0 ∷ body_of b in
    let here : From s 8 (body_of b) = record { rest = refl; within = omega arith } in
    let there : From s 8 (body_of c) = record { rest = e; within = omega arith } in
    sym (body_is b h here) ∙ body_is c k there
