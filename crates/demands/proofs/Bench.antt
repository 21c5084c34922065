-- The writer's sections on a fresh shelf, proved of the functions that a host calls.
--   section-written, can-be-offered, complete-table, hands_out, bodies-back
use mathlib.Core.Path.{◌≡◌, refl, ap, ◌∙◌}
use mathlib.Core.List.{List, [], ◌∷◌, ◌++◌, Memᴰ}
use Prim.Native.Nat.{ℕ, zero, suc, ◌+◌, ◌*◌, ◌/◌, ◌%◌, ◌<◌, ◌≤◌}
use native.Mathlib.Omega.{arith}
use lib.ListN.{length, take, drop, length-take}
use Rattle.std.specs.Prelude.{Result, Ok, Err}
use Rattle.refusal.specs.Refusal.{number}
use Rattle.refusal.specs.declared.Refusal.{Refusal}
use Rattle.refusal.proofs.Numbers.{in_byte}
use Rattle.base.specs.Octets.{Octets}
use Rattle.base.specs.Bytes.{part}
use Rattle.base.proofs.Bytes.{octets-part}
use Rattle.key.specs.declared.Key.{Key}
use Rattle.shelf_ask.specs.Ask.{Copy}
use Rattle.answers.specs.Answers.{size_in}
use Rattle.shelf_laws.specs.State.{copy_out, whole_in}
use Rattle.shelf_laws.specs.History.{OfBytes, copy, after_all}
use Rattle.shelf_laws.proofs.Octets.{octets-cons}
use Rattle.shelf_laws.proofs.Ranges.{SizeRange}
use Rattle.writer.specs.Writer.{longest_body, last_of, body_at, section_of, written}
use Rattle.writer.specs.declared.Label.{Label}
use Rattle.writer.specs.Answer.{write_out, section_lent}
use Rattle.writer.proofs.Laws.{last-le}
use Rattle.writer.proofs.ExactlyWhen.{write_answered}
use Rattle.writer_laws.specs.Offers as layer
use Rattle.writer_laws.proofs.AnyOrder as order
use Rattle.shelf_ask.specs.Answer as ask-answer
use Rattle.shelf_ask.specs.Answer.{copied_code}
use Rattle.shelf_histories.specs.History.{History, copy_after}
use Rattle.shelf_histories.proofs.Back.{size_in_lem}
use Rattle.shelf_histories.proofs.After.{reply-range, reply-after}
use Rattle.demands.specs.Bench.{SectionWritten, InBytes, CanBeOffered, CompleteTable, HandsOut, body_of, bodies_after, BodiesBack}
use Rattle.demands.proofs.Shelf.{by-complete}

pub section-written : SectionWritten
unfolding section_lent
section-written label body other five fits k known output room =
    ap write_out
    (write_answered label body k output (
      other,
      (
        λ (l : longest_body < length body). omega arith,
        (
          λ (l : 31 < label.version). omega arith,
          (λ (l : last_of (length body) < k). omega arith, (λ (l : length output < length (written label body k)). omega arith, tt)),
        ),
      ),
    ))

-- a header's eight bytes, then others
octets-eight : (a b c d e f g h : ℕ) (s : List ℕ) → a < 256 → b < 256 → c < 256 → d < 256 → e < 256 → f < 256 → g < 256 → h < 256 → Octets s
    → Octets (a ∷ b ∷ c ∷ d ∷ e ∷ f ∷ g ∷ h ∷ s)
octets-eight a b c d e f g h s la lb lc ld le lf lg lh o =
    octets-cons a (b ∷ c ∷ d ∷ e ∷ f ∷ g ∷ h ∷ s) la
    (octets-cons b (c ∷ d ∷ e ∷ f ∷ g ∷ h ∷ s) lb
    (octets-cons c (d ∷ e ∷ f ∷ g ∷ h ∷ s) lc
    (octets-cons d (e ∷ f ∷ g ∷ h ∷ s) ld
    (octets-cons e (f ∷ g ∷ h ∷ s) le (octets-cons f (g ∷ h ∷ s) lf (octets-cons g (h ∷ s) lg (octets-cons h s lh o)))))))

-- a section that is written for a label and a body of bytes is of bytes
section-octets : (label : Label) (body : List ℕ) → label.version ≤ 31 → length body ≤ longest_body → InBytes label body
    → (k : ℕ) → k ≤ last_of (length body) → Octets (written label body k)
unfolding written section_of body_at
section-octets label body five fits b k known =
    let last : last_of (length body) ≤ 15 = last-le (length body) fits in
    let bytes = part body (1016 * k) 1016 in
    let size : length (part body (1016 * k) 1016) ≤ 1016 = simp length-take (omega arith) in
    let t : label.table < 256 = b.table in
    let x : label.extension < 65536 = b.extension in
    octets-eight label.table (64 + 48 + (5 + length bytes) / 256) ((5 + length bytes) % 256) (label.extension / 256) (label.extension % 256)
    (192 + 2 * label.version + 1) k (last_of (length body)) bytes
    t (omega arith) (omega arith) (omega arith) (omega arith) (omega arith) (omega arith) (omega arith)
    (octets-part body (1016 * k) 1016 b.octets)

offers-octets : (label : Label) (body : List ℕ) → label.version ≤ 31 → length body ≤ longest_body → InBytes label body
    → (ks : List ℕ) → ((k : ℕ) → Memᴰ k ks → k ≤ last_of (length body)) → OfBytes (layer.offers_of label body ks)
offers-octets label body five fits b [] known = tt
offers-octets label body five fits b (k ∷ ks) known = (
  section-octets label body five fits b k (known k (Memᴰ.head refl)),
  offers-octets label body five fits b ks (λ j m. known j (Memᴰ.tail m)),
)

pub can-be-offered : CanBeOffered
can-be-offered label body other five fits ks any b l sizes = (
  record { lent = l; sizes = sizes; calls = layer.offers_of label body ks; bytes = offers-octets label body five fits b ks any.known },
  refl,
  refl,
)

-- a body that is handed out, in numbers
body_same : (c : Copy) → SizeRange c.said → body_of (ask-answer.copy_out c) ≡ layer.body_of c
body_same c r = go c.said r
  where
    go : (a : Result ℕ Refusal) → SizeRange a → drop 8 (take (size_in (copied_code a)) c.out) ≡ layer.body_in a c.out
    go (Ok n) r = ap (λ m. drop 8 (take m c.out)) (size_in_lem n r)
    go (Err x) r =
        let b : number x < 256 = (in_byte x).1 in
        let z : size_in (number x) ≡ 0 = omega arith in
        ap (λ m. drop 8 (take m c.out)) z

pub complete-table : CompleteTable
complete-table label body other five fits ks any h e =
    by-complete h (layer.label_key label)
    (ap (λ cs. whole_in (after_all cs) (layer.label_key label)) e ∙ order.complete-table label body other five fits ks any)

pub hands_out : HandsOut
hands_out label body other five fits ks any h e k known output room =
    reply-after h (copy (layer.label_key label) k output)
    ∙ ap ask-answer.copy_out
    (ap (λ cs. copy_out (after_all cs) (layer.label_key label) k output) e ∙ order.hands_out label body other five fits ks any k known output room)

bodies-same : (h : History) (key : Key) (output : List ℕ) (n : ℕ) → bodies_after h key output n ≡ layer.bodies_after h.calls key output n
bodies-same h key output zero = refl
bodies-same h key output (suc n) =
    ap (λ l. l ++ body_of (copy_after h key n output)) (bodies-same h key output n)
    ∙ ap (λ l. layer.bodies_after h.calls key output n ++ l)
    (ap body_of (reply-after h (copy key n output))
    ∙ body_same (copy_out (after_all h.calls) key n output) (reply-range h (copy key n output)))

pub bodies-back : BodiesBack
bodies-back label body other five fits ks any h e output room =
    bodies-same h (layer.label_key label) output (last_of (length body) + 1)
    ∙ ap (λ cs. layer.bodies_after cs (layer.label_key label) output (last_of (length body) + 1)) e
    ∙ order.bodies-back label body other five fits ks any output room
