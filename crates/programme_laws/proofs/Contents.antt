-- A content item, written and read.
--   content-split, front-split     its bytes, and what stands behind
--   item-written                   an item that stands at a place is read there
--   item-found                     an item that is read stands there
use mathlib.Core.Path.{◌≡◌, sym, ap, ◌∙◌}
use mathlib.Core.List.{List, [], ◌∷◌, ◌++◌, append_assoc, append-nil}
use Prim.Native.Nat.{ℕ, ◌+◌, ◌-◌, ◌*◌, ◌/◌, ◌%◌, ◌^◌, ◌<◌, ◌≤◌}
use native.Mathlib.Numerals.{add-one}
use native.Mathlib.Omega.{arith}
use lib.Dec.{eqb}
use lib.ListN.{length, drop, length-append, take-append-drop}
use lib.Seq.{drop-cons, drop-drop}
use Rattle.base.specs.Bytes.{byte, part}
use Rattle.base.specs.Octets.{Octets}
use Rattle.base.proofs.Bytes.{length_part, octets-part}
use Rattle.programme.specs.Field.{number}
use Rattle.std.specs.Prelude.{Ok, Some}
use Rattle.programme.specs.Table.{content_linkage, flags, playback_length_included, playback_delay_included, expiration_included, content_size_included}
use Rattle.programme.specs.Table.{playback_length_at, playback_delay_at, expiration_at, content_size_at}
use Rattle.programme.specs.Table.{content_name_length_at, content_name_length, content_name_at, num_content_descriptors_at, num_content_descriptors, content_descriptors_at}
use Rattle.programme.specs.Run.{run_of}
use Rattle.programme.specs.Reading.{item_run, item_at}
use Rattle.programme.proofs.Items.{item_to, item-reads}
use Rattle.programme_laws.specs.Layout.{digits, Descriptor, loop_bytes, included, optional_bytes, Content, flags_of, front_bytes, name_bytes, content_then, content_bytes, FitContent}
use Rattle.programme_laws.specs.Layout.{name_in, item_in}
use Rattle.programme_laws.proofs.From.{From, long, after, next, first_byte}
use Rattle.programme_laws.proofs.Digits.{field-says, field-after, field-reads, number_fits}
use Rattle.programme_laws.proofs.Loops.{run-written, Written, run-reads}
use Rattle.programme_laws.proofs.Optionals.{opt-after, opt-says, optional_from, opt-fits, opt-reads, opt-flag}
use Rattle.programme_laws.proofs.Flags.{included-bit, ninth, eighth, seventh, sixth, fifth, fourth, third, second, first, zeroth, gathered}

module _ (c : Content) (r : List ℕ) where
  pub front-split : front_bytes c r ≡ front_bytes c [] ++ r
  front-split = simp (append_assoc, append-nil)

  pub name-split : name_bytes c r ≡ name_bytes c [] ++ r
  name-split = simp (append_assoc, append-nil)

  pub content-split : content_then c r ≡ content_bytes c ++ r
  unfolding content_then
  content-split = simp (append_assoc, append-nil)

-- the flags of an item that is written
module _ (c : Content) (h : FitContent c) where
  abbrev g : ℕ
  g = flags_of c

  pub flag-updates : g / 2 ^ 9 % 2 ≡ c.updates
  flag-updates =
      ninth c.updates c.fragment c.security c.master (included c.playback) (included c.delay) (included c.expires) (included c.size)
      c.internet c.broadcast h.fragment h.security h.master (included-bit c.playback) (included-bit c.delay) (included-bit c.expires)
      (included-bit c.size) h.internet h.broadcast h.updates

  pub flag-fragment : g / 2 ^ 8 % 2 ≡ c.fragment
  flag-fragment =
      eighth c.updates c.fragment c.security c.master (included c.playback) (included c.delay) (included c.expires) (included c.size)
      c.internet c.broadcast h.fragment h.security h.master (included-bit c.playback) (included-bit c.delay) (included-bit c.expires)
      (included-bit c.size) h.internet h.broadcast

  pub flag-security : g / 2 ^ 7 % 2 ≡ c.security
  flag-security =
      seventh c.updates c.fragment c.security c.master (included c.playback) (included c.delay) (included c.expires) (included c.size)
      c.internet c.broadcast h.fragment h.security h.master (included-bit c.playback) (included-bit c.delay) (included-bit c.expires)
      (included-bit c.size) h.internet h.broadcast

  pub flag-master : g / 2 ^ 6 % 2 ≡ c.master
  flag-master =
      sixth c.updates c.fragment c.security c.master (included c.playback) (included c.delay) (included c.expires) (included c.size)
      c.internet c.broadcast h.fragment h.security h.master (included-bit c.playback) (included-bit c.delay) (included-bit c.expires)
      (included-bit c.size) h.internet h.broadcast

  pub flag-playback : g / 2 ^ 5 % 2 ≡ included c.playback
  flag-playback =
      fifth c.updates c.fragment c.security c.master (included c.playback) (included c.delay) (included c.expires) (included c.size)
      c.internet c.broadcast h.fragment h.security h.master (included-bit c.playback) (included-bit c.delay) (included-bit c.expires)
      (included-bit c.size) h.internet h.broadcast

  pub flag-delay : g / 2 ^ 4 % 2 ≡ included c.delay
  flag-delay =
      fourth c.updates c.fragment c.security c.master (included c.playback) (included c.delay) (included c.expires) (included c.size)
      c.internet c.broadcast h.fragment h.security h.master (included-bit c.playback) (included-bit c.delay) (included-bit c.expires)
      (included-bit c.size) h.internet h.broadcast

  pub flag-expires : g / 2 ^ 3 % 2 ≡ included c.expires
  flag-expires =
      third c.updates c.fragment c.security c.master (included c.playback) (included c.delay) (included c.expires) (included c.size)
      c.internet c.broadcast h.fragment h.security h.master (included-bit c.playback) (included-bit c.delay) (included-bit c.expires)
      (included-bit c.size) h.internet h.broadcast

  pub flag-size : g / 2 ^ 2 % 2 ≡ included c.size
  flag-size =
      second c.updates c.fragment c.security c.master (included c.playback) (included c.delay) (included c.expires) (included c.size)
      c.internet c.broadcast h.fragment h.security h.master (included-bit c.playback) (included-bit c.delay) (included-bit c.expires)
      (included-bit c.size) h.internet h.broadcast

  pub flag-internet : g / 2 % 2 ≡ c.internet
  flag-internet =
      first c.updates c.fragment c.security c.master (included c.playback) (included c.delay) (included c.expires) (included c.size)
      c.internet c.broadcast h.fragment h.security h.master (included-bit c.playback) (included-bit c.delay) (included-bit c.expires)
      (included-bit c.size) h.internet h.broadcast

  pub flag-broadcast : g % 2 ≡ c.broadcast
  flag-broadcast =
      zeroth c.updates c.fragment c.security c.master (included c.playback) (included c.delay) (included c.expires) (included c.size)
      c.internet c.broadcast h.fragment h.security h.master (included-bit c.playback) (included-bit c.delay) (included-bit c.expires)
      (included-bit c.size) h.internet h.broadcast

  pub flags-small : g < 1024
  flags-small =
      omega
      (arith, h.updates, h.fragment, h.security, h.master, h.internet, h.broadcast, included-bit c.playback, included-bit c.delay, included-bit c.expires, included-bit c.size)

-- what stands from each of its fields on
abbrev pub size-on : Content → List ℕ → List ℕ
size-on c r = optional_bytes 5 40 c.size ++ name_bytes c r

abbrev pub expires-on : Content → List ℕ → List ℕ
expires-on c r = optional_bytes 4 32 c.expires ++ size-on c r

abbrev pub delay-on : Content → List ℕ → List ℕ
delay-on c r = optional_bytes 3 20 c.delay ++ expires-on c r

abbrev pub playback-on : Content → List ℕ → List ℕ
playback-on c r = optional_bytes 3 20 c.playback ++ delay-on c r

abbrev pub flags-on : Content → List ℕ → List ℕ
flags-on c r = digits 2 (flags_of c * 2 ^ 6 + c.reserved) ++ playback-on c r

-- an item that stands at a place, field by field
module _ (c : Content) (h : FitContent c) {s : List ℕ} {at : ℕ} (r : List ℕ) (f : From s at (content_then c r)) where
  at-linkage : From s at (front_bytes c (name_bytes c r))
  unfolding content_then
  at-linkage = f

  pub linkage-says : content_linkage s at ≡ c.linkage
  linkage-says = field-says 4 c.linkage (flags-on c r) at-linkage h.linkage

  pub at-flags : From s (at + 4) (flags-on c r)
  at-flags = field-after 4 c.linkage (flags-on c r) at-linkage

  pub flags-say : flags s at ≡ flags_of c
  flags-say =
      let small : flags_of c < 1024 = flags-small c h in
      let spare : c.reserved < 2 ^ 6 = h.reserved in
      let both : number s (at + 4) 2 ≡ flags_of c * 2 ^ 6 + c.reserved = field-says 2 (flags_of c * 2 ^ 6 + c.reserved) (playback-on c r) at-flags (omega arith) in
      omega arith

  pub at-playback : From s (playback_length_at s at) (playback-on c r)
  at-playback = let e : at + 4 + 2 ≡ at + 6 = omega arith in rw e at (field-after 2 (flags_of c * 2 ^ 6 + c.reserved) (playback-on c r) at-flags)

  pub is-playback : playback_length_included s at ≡ eqb (included c.playback) 1
  is-playback = ap (λ x. eqb x 1) (ap (λ x. x / 2 ^ 5 % 2) flags-say ∙ flag-playback c h)

  pub is-delay : playback_delay_included s at ≡ eqb (included c.delay) 1
  is-delay = ap (λ x. eqb x 1) (ap (λ x. x / 2 ^ 4 % 2) flags-say ∙ flag-delay c h)

  pub is-expires : expiration_included s at ≡ eqb (included c.expires) 1
  is-expires = ap (λ x. eqb x 1) (ap (λ x. x / 2 ^ 3 % 2) flags-say ∙ flag-expires c h)

  pub is-size : content_size_included s at ≡ eqb (included c.size) 1
  is-size = ap (λ x. eqb x 1) (ap (λ x. x / 2 ^ 2 % 2) flags-say ∙ flag-size c h)

  pub at-delay : From s (playback_delay_at s at) (delay-on c r)
  at-delay = opt-after 3 20 (playback_length_included s at) c.playback (delay-on c r) at-playback is-playback

  pub at-expires : From s (expiration_at s at) (expires-on c r)
  at-expires = opt-after 3 20 (playback_delay_included s at) c.delay (expires-on c r) at-delay is-delay

  pub at_size : From s (content_size_at s at) (size-on c r)
  at_size = opt-after 4 32 (expiration_included s at) c.expires (size-on c r) at-expires is-expires

  pub at_name : From s (content_name_length_at s at) (name_bytes c r)
  at_name = opt-after 5 40 (content_size_included s at) c.size (name_bytes c r) at_size is-size

  pub name-says : content_name_length s at ≡ length c.name
  name-says = first_byte _ _ at_name

  pub at_count : From s (num_content_descriptors_at s at) (length c.descriptors ∷ (loop_bytes c.descriptors ++ r))
  at_count = rw name-says (after c.name _ (next _ _ at_name))

  pub count-says : num_content_descriptors s at ≡ length c.descriptors
  count-says = first_byte _ _ at_count

  pub at-loop : From s (content_descriptors_at s at) (loop_bytes c.descriptors ++ r)
  at-loop = next _ _ at_count

  pub at-end : From s (content_descriptors_at s at + length (loop_bytes c.descriptors)) r
  at-end = after (loop_bytes c.descriptors) r at-loop

  -- the places, counted from the item's
  name-place : content_name_length_at s at ≡ at + length (front_bytes c [])
  name-place =
      let a : length s ≡ at + length (front_bytes c (name_bytes c r)) = long at-linkage in
      let b : length s ≡ content_name_length_at s at + length (name_bytes c r) = long at_name in
      let d : length (front_bytes c (name_bytes c r)) ≡ length (front_bytes c []) + length (name_bytes c r)
      = ap length (front-split c (name_bytes c r)) ∙ length-append (front_bytes c []) (name_bytes c r) in
      omega arith

  end-place : content_descriptors_at s at + length (loop_bytes c.descriptors) ≡ at + length (content_bytes c)
  end-place =
      let a : length s ≡ at + length (content_then c r) = long f in
      let b : length s ≡ content_descriptors_at s at + length (loop_bytes c.descriptors) + length r = long at-end in
      let d : length (content_then c r) ≡ length (content_bytes c) + length r = ap length (content-split c r) ∙ length-append (content_bytes c) r in
      omega arith

  loop-place : content_descriptors_at s at ≡ name_in at c + length c.name + 1
  loop-place = ap (λ x. x + 1 + content_name_length s at + 1) name-place ∙ ap (λ x. name_in at c + x + 1) name-says

  -- what is read there
  -- from the last field to the first, since each place is told by the fields before it
  is-item : item_to s at (content_descriptors_at s at + length (loop_bytes c.descriptors)) ≡ item_in at c
  is-item =
      let size : content_descriptors_at s at + length (loop_bytes c.descriptors) - content_descriptors_at s at ≡ length (loop_bytes c.descriptors) = omega arith in
      rw (
        size,
        end-place,
        loop-place,
        count-says,
        name-says,
        ap (λ x. x + 1) name-place,
        opt-says 5 40 (content_size_included s at) c.size (name_bytes c r) at_size is-size h.size,
        opt-says 4 32 (expiration_included s at) c.expires (size-on c r) at-expires is-expires h.expires,
        opt-says 3 20 (playback_delay_included s at) c.delay (expires-on c r) at-delay is-delay h.delay,
        opt-says 3 20 (playback_length_included s at) c.playback (delay-on c r) at-playback is-playback h.playback,
        flags-say,
        linkage-says,
      )

  pub item-written : 17 ≤ at → item_at s at ≡ Ok (Some (item_in at c))
  item-written l =
      let run : item_run s at ≡ Some (content_descriptors_at s at + length (loop_bytes c.descriptors))
      = ap (λ n. run_of n s (content_descriptors_at s at)) count-says ∙ run-written c.descriptors r at-loop in
      sym (item-reads s at l at-loop.within _ run) ∙ ap (λ i. Ok (Some i)) is-item

  pub item-behind : From s (at + length (content_bytes c)) r
  item-behind = rw (← end-place) at-end

-- the item whose fields stand at a place, with these descriptors
abbrev pub content_at : List ℕ → ℕ → List Descriptor → Content
content_at s at descriptors =
    record {
      linkage = content_linkage s at;
      updates = flags s at / 2 ^ 9 % 2;
      fragment = flags s at / 2 ^ 8 % 2;
      security = flags s at / 2 ^ 7 % 2;
      master = flags s at / 2 ^ 6 % 2;
      playback = optional_from (playback_length_included s at) 3 20 s (playback_length_at s at);
      delay = optional_from (playback_delay_included s at) 3 20 s (playback_delay_at s at);
      expires = optional_from (expiration_included s at) 4 32 s (expiration_at s at);
      size = optional_from (content_size_included s at) 5 40 s (content_size_at s at);
      internet = flags s at / 2 % 2;
      broadcast = flags s at % 2;
      reserved = number s (at + 4) 2 % 2 ^ 6;
      name = part s (content_name_at s at) (content_name_length s at);
      descriptors = descriptors;
    }

-- an item that stands from a place to another
pub record Found (s : List ℕ) (at end : ℕ) : Type 0 where
  pub content : Content
  pub fits : FitContent content
  pub bytes : drop at s ≡ content_then content (drop end s)

module _ (s : List ℕ) (b : Octets s) (at : ℕ) (within : content_descriptors_at s at ≤ length s) (end : ℕ) (run : item_run s at ≡ Some end) where
  abbrev x : ℕ
  x = flags s at

  abbrev loop : Written (num_content_descriptors s at) s (content_descriptors_at s at) end
  loop = run-reads (num_content_descriptors s at) s b (content_descriptors_at s at) end run

  -- the item
  abbrev said : Content
  said = content_at s at loop.loop

  named : length (part s (content_name_at s at) (content_name_length s at)) ≡ content_name_length s at
  named = length_part s (content_name_at s at) (content_name_length s at) (omega arith)

  said_fits : FitContent said
  said_fits =
      record {
        linkage = number_fits s b at 4;
        updates = omega arith;
        fragment = omega arith;
        security = omega arith;
        master = omega arith;
        playback = opt-fits 3 20 s b (playback_length_at s at) (playback_length_included s at);
        delay = opt-fits 3 20 s b (playback_delay_at s at) (playback_delay_included s at);
        expires = opt-fits 4 32 s b (expiration_at s at) (expiration_included s at);
        size = opt-fits 5 40 s b (content_size_at s at) (content_size_included s at);
        internet = omega arith;
        broadcast = omega arith;
        reserved = omega arith;
        named = rw named (b (content_name_length_at s at));
        name = octets-part s (content_name_at s at) (content_name_length s at) b;
        counted = rw loop.many (b (num_content_descriptors_at s at));
        descriptors = loop.fits;
      }

  -- the flags that were read, written again
  said-flags : flags_of said * 2 ^ 6 + number s (at + 4) 2 % 2 ^ 6 ≡ number s (at + 4) 2
  said-flags =
      let small : number s (at + 4) 2 < 65536 = number_fits s b (at + 4) 2 in
      let ten : flags_of said ≡ x
      = rw (
        opt-flag (x / 2 ^ 5) 3 20 s (playback_length_at s at),
        opt-flag (x / 2 ^ 4) 3 20 s (playback_delay_at s at),
        opt-flag (x / 2 ^ 3) 4 32 s (expiration_at s at),
        opt-flag (x / 2 ^ 2) 5 40 s (content_size_at s at),
      ) (gathered x (omega arith)) in
      ap (λ y. y * 2 ^ 6 + number s (at + 4) 2 % 2 ^ 6) ten ∙ omega arith

  -- one byte, and what is behind it
  one : (p : ℕ) → p + 1 ≤ length s → drop p s ≡ byte s p ∷ drop (p + 1) s
  one p l = rw add-one (drop-cons s p 0 (omega arith))

  after-name : drop (content_name_length_at s at) s ≡ name_bytes said (drop end s)
  after-name =
      one (content_name_length_at s at) (omega arith)
      ∙ ap (λ l. byte s (content_name_length_at s at) ∷ l)
      (sym (take-append-drop (content_name_length s at) (drop (content_name_at s at) s))
      ∙ ap (λ l. part s (content_name_at s at) (content_name_length s at) ++ l)
      (drop-drop (content_name_length s at) (content_name_at s at) s
      ∙ one (num_content_descriptors_at s at) within
      ∙ ap (λ l. byte s (num_content_descriptors_at s at) ∷ l) loop.bytes))
      ∙ rw (named, loop.many)

  pub item-found : Found s at end
  unfolding content_then
  item-found =
      record {
        content = said;
        fits = said_fits;
        bytes =
            (let e : at + 4 + 2 ≡ at + 6 = omega arith in
            field-reads s b at 4 (omega arith)
            ∙ ap (λ l. digits 4 (content_linkage s at) ++ l)
            (rw e at (field-reads s b (at + 4) 2 (omega arith))
            ∙ ap (λ l. digits 2 (number s (at + 4) 2) ++ l)
            (opt-reads 3 20 s b (playback_length_at s at) (playback_length_included s at) (omega arith)
            ∙ ap (λ l. optional_bytes 3 20 said.playback ++ l)
            (opt-reads 3 20 s b (playback_delay_at s at) (playback_delay_included s at) (omega arith)
            ∙ ap (λ l. optional_bytes 3 20 said.delay ++ l)
            (opt-reads 4 32 s b (expiration_at s at) (expiration_included s at) (omega arith)
            ∙ ap (λ l. optional_bytes 4 32 said.expires ++ l)
            (opt-reads 5 40 s b (content_size_at s at) (content_size_included s at) (omega arith)
            ∙ ap (λ l. optional_bytes 5 40 said.size ++ l) after-name)))))
            ∙ rw said-flags);
      }
