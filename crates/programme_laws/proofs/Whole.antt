-- A section and the list that it is (`specs/Theorems.antt` has the words).
--   contents-split, all-behind     items, one behind the other
--   bytes_read                     the bytes of a list are read as it
--   read_bytes                     what is read as a list is its bytes
--   exactly, stays
use mathlib.Core.Path.{◌≡◌, refl, sym, ap, ◌∙◌}
use mathlib.Core.List.{List, [], ◌∷◌, ◌++◌, append-nil}
use Prim.Native.Nat.{ℕ, zero, suc, ◌+◌, ◌-◌, ◌*◌, ◌/◌, ◌%◌, ◌^◌, ◌<◌, ◌≤◌}
use native.Mathlib.Nat.{suc-add, div-add-mod'}
use native.Mathlib.Omega.{arith}
use lib.ListN.{length, drop}
use lib.Seq.{drop-length}
use Rattle.base.specs.Bytes.{byte}
use Rattle.base.specs.Octets.{Octets}
use Rattle.section.proofs.Laws.{sound-facts}
use Rattle.std.specs.Prelude.{Ok, Err, Some, None}
use Rattle.refusal.specs.Refusal.{number as number_of_refusal}
use Rattle.refusal.specs.declared.Refusal.{Refusal}
use Rattle.refusal.specs.declared.Refusal.TheVariants.{ProgrammePassesEnd}
use Rattle.refusal.proofs.Numbers.{in_byte}
use Rattle.programme.specs.Field.{number}
use Rattle.programme.specs.Table.{num_content_items, time_span_length, service_id, time_span_start, num_descriptors}
use Rattle.programme.specs.Run.{run_of}
use Rattle.programme.specs.Reading.{Reading, Step, Own, read_of, programme_of, item_of, item_at, own_at, step_of, own_of, own_run}
use Rattle.programme.specs.Answer.{reading_told, own_told}
use Rattle.programme.specs.declared.Programme.{Programme}
use Rattle.programme.specs.declared.Loop.{Loop}
use Rattle.programme.specs.declared.Item.{Item}
use Rattle.programme.proofs.Numbers.{service-is, start_is}
use Rattle.programme.proofs.Items as items
use Rattle.programme.proofs.Readings.{Listed, listed}
use Rattle.programme.proofs.Within.{Ends, own-ends, item-stands}
use Rattle.programme_laws.specs.Walk.{onward, walk, walk_of, reached, Answers, answers_to, Accepted, Unrefused}
use Rattle.programme_laws.specs.Layout.{digits, Descriptor, loop_bytes, Content, content_then, content_bytes, contents_then, Body, body_of, FitContents, FitBody}
use Rattle.programme_laws.specs.Layout.{loop_in, item_in, steps_in, past_all, programme_in, answers_of}
use Rattle.programme_laws.specs.Theorems.{OfNrtIt, Begun, Exactly}
use Rattle.programme_laws.proofs.From.{From, long, next, first_byte}
use Rattle.programme_laws.proofs.Digits.{field-says, field-after, field-reads, number_fits}
use Rattle.programme_laws.proofs.Loops.{run-written, run-reads}
use Rattle.programme_laws.proofs.Contents.{item-written, item-behind, item-found}
use Rattle.programme_laws.proofs.ExactlyWhen.{begun-reads, ItemWay, item-way}
use Rattle.programme_laws.proofs.Walks.{one}

-- the walk of items that stand from a place on
module _ (s : List ℕ) (p : Programme) (e : read_of s ≡ Ok p) where
  walk-written : (cs : List Content) (at k : ℕ) (r : List ℕ) → From s at (contents_then cs r) → FitContents cs → 17 ≤ at → k + length cs ≡ p.items
      → walk (length cs + 1) s at k ≡ steps_in at cs
  unfolding walk contents_then
  walk-written [] at k r f h l n =
      rw (← items.step_over s at k p e (omega arith))
  walk-written (c ∷ cs) at k r f h l n =
      let here : step_of s at k ≡ Ok (Some (item_in at c))
      = sym (items.step-item s at k p e (omega arith)) ∙ item-written c h.0 (contents_then cs r) f l in
      rw (suc-add, here)
      (ap (λ xs. Ok (Some (item_in at c)) ∷ xs)
      (walk-written cs (at + length (content_bytes c)) (k + 1) r (item-behind c h.0 (contents_then cs r) f) h.1 (omega arith) (omega arith)))

pub all-behind : (cs : List Content) {s : List ℕ} (at : ℕ) (r : List ℕ) → From s at (contents_then cs r) → FitContents cs → 17 ≤ at
    → From s (past_all at cs) r × (17 ≤ past_all at cs)
unfolding contents_then
all-behind [] at r f h l = (f, l)
all-behind (c ∷ cs) at r f h l = all-behind cs (at + length (content_bytes c)) r (item-behind c h.0 (contents_then cs r) f) h.1 (omega arith)

reached-all : (cs : List Content) (at : ℕ) → reached at (steps_in at cs) ≡ past_all at cs
reached-all [] at = refl
reached-all (c ∷ cs) at = reached-all cs (at + length (content_bytes c))

-- the table's own loop that stands at a place, to the end
own-written : (ds : List Descriptor) {s : List ℕ} {at : ℕ} → From s at (length ds ∷ loop_bytes ds) → 17 ≤ at → own_at s at ≡ Ok (loop_in at ds)
own-written ds {s} {at} f l =
    let count : byte s at ≡ length ds = first_byte _ _ f in
    let g : From s (at + 1) (loop_bytes ds ++ []) = rw (← append-nil (loop_bytes ds)) at (next _ _ f) in
    let run : own_run s at ≡ Some (at + 1 + length (loop_bytes ds))
    = ap (λ n. run_of n s (at + 1)) count ∙ run-written ds [] g in
    let size : length s ≡ at + 1 + length (loop_bytes ds) = (let a : length s ≡ at + suc (length (loop_bytes ds)) = long f in omega arith) in
    sym (items.own-reads s at l (omega arith) (at + 1 + length (loop_bytes ds)) run (omega arith))
    ∙ (let rest : at + 1 + length (loop_bytes ds) - (at + 1) ≡ length (loop_bytes ds) = omega arith in rw (count, rest))

-- what stands from each of a body's fields on
abbrev pub items_on : Body → List ℕ
items_on b = length b.items ∷ contents_then b.items (length b.descriptors ∷ loop_bytes b.descriptors)

abbrev pub minutes-on : Body → List ℕ
minutes-on b = digits 2 (b.reserved * 2 ^ 11 + b.minutes) ++ items_on b

abbrev pub start-on : Body → List ℕ
start-on b = digits 4 b.start ++ minutes-on b

-- the fields of a body that stands behind the header
module _ (b : Body) (h : FitBody b) {s : List ℕ} (f : From s 8 (body_of b)) where
  pub at-service : From s 8 (digits 2 b.service ++ start-on b)
  unfolding body_of
  at-service = f

  pub at-start : From s 10 (start-on b)
  at-start = field-after 2 b.service (start-on b) at-service

  pub at-minutes : From s 14 (minutes-on b)
  at-minutes = field-after 4 b.start (minutes-on b) at-start

  pub at-items : From s 16 (items_on b)
  at-items = field-after 2 (b.reserved * 2 ^ 11 + b.minutes) (items_on b) at-minutes

  pub at_first : From s 17 (contents_then b.items (length b.descriptors ∷ loop_bytes b.descriptors))
  at_first = next _ _ at-items

  pub items-say : num_content_items s ≡ length b.items
  items-say = first_byte _ _ at-items

  pub says : programme_of s ≡ programme_in b
  says =
      let spare : b.reserved < 2 ^ 5 = h.reserved in
      let span : b.minutes < 2 ^ 11 = h.minutes in
      let service : service_id s ≡ b.service = sym (service-is s) ∙ field-says 2 b.service (start-on b) at-service h.service in
      let start : time_span_start s ≡ b.start = sym (start_is s) ∙ field-says 4 b.start (minutes-on b) at-start h.start in
      let both : number s 14 2 ≡ b.reserved * 2 ^ 11 + b.minutes = field-says 2 (b.reserved * 2 ^ 11 + b.minutes) (items_on b) at-minutes (omega arith) in
      let minutes : time_span_length s ≡ b.minutes = omega arith in
      rw (service, start, minutes, items-say)

same-answers : {r r' : Reading} {x x' : List Step} {o o' : Own} → r ≡ r' → x ≡ x' → o ≡ o'
    → ◌≡◌ {A = Answers} (record { reading = r; steps = x; own = o }) (record { reading = r'; steps = x'; own = o' })
same-answers a b c = rw (a, b, c)

module _ (s : List ℕ) (of : OfNrtIt s) (b : Body) (h : FitBody b) (d : drop 8 s ≡ body_of b) where
  from-header : From s 8 (body_of b)
  from-header = record { rest = d; within = (sound-facts s of.header of.sound).least }

  pub begins : Begun s
  begins = (of, (at_first b h from-header).within)

  pub bytes_read : answers_to s ≡ answers_of b
  bytes_read =
      let reads : read_of s ≡ Ok (programme_of s) = begun-reads s begins in
      let many : num_content_items s ≡ length b.items = items-say b h from-header in
      let steps : walk_of s ≡ steps_in 17 b.items
      = ap (λ n. walk (n + 1) s 17 0) many
      ∙ walk-written s (programme_of s) reads b.items 17 0 _ (at_first b h from-header) h.items (omega arith) (omega arith) in
      let end : reached 17 (walk_of s) ≡ past_all 17 b.items = ap (reached 17) steps ∙ reached-all b.items 17 in
      let behind = all-behind b.items 17 _ (at_first b h from-header) h.items (omega arith) in
      same-answers
      (reads ∙ ap Ok (says b h from-header))
      steps
      (ap (own_of s) end
      ∙ sym (items.own-there s (past_all 17 b.items) (programme_of s) reads)
      ∙ own-written b.descriptors behind.0 behind.1)

-- an item is never over, and is refused 43 alone
module _ (s : List ℕ) (at : ℕ) where
  never-over : item_at s at ≡ Ok None → ⊥
  never-over e = go (item-way s at)
    where
      go : ItemWay s at → ⊥
      go (ItemWay.passes p q) = let r : Ok None ≡ Err ProgrammePassesEnd = sym e ∙ q in let z : ◌≡◌ {A = ℕ} 0 1 = cc in omega arith
      go (ItemWay.reads p q) = let r : Ok None ≡ Ok (Some (item_of s at)) = sym e ∙ q in let z : ◌≡◌ {A = ℕ} 0 1 = cc in omega arith

  refused-43 : (m : Refusal) → item_at s at ≡ Err m → m ≡ ProgrammePassesEnd
  refused-43 m e = go (item-way s at)
    where
      go : ItemWay s at → m ≡ ProgrammePassesEnd
      go (ItemWay.passes p q) = let r : Err m ≡ Err ProgrammePassesEnd = sym e ∙ q in cc
      go (ItemWay.reads p q) =
          let r : Err m ≡ Ok (Some (item_of s at)) = sym e ∙ q in absurd (let z : ◌≡◌ {A = ℕ} 0 1 = cc in omega arith)

-- the items of a walk that nothing refuses
pub record Listing (s : List ℕ) (at to n : ℕ) : Type 0 where
  pub contents : List Content
  pub many : length contents ≡ n
  pub fits : FitContents contents
  pub bytes : drop at s ≡ contents_then contents (drop to s)

module _ (s : List ℕ) (b : Octets s) (p : Programme) (e : read_of s ≡ Ok p) where
  walk-found : (left at k : ℕ) → k + left ≡ p.items → Accepted (walk (suc left) s at k) → Listing s at (reached at (walk (suc left) s at k)) left
  unfolding walk contents_then
  walk-found zero at k n a =
      rw (← items.step_over s at k p e (omega arith)) (record { contents = []; many = refl; fits = tt; bytes = refl })
  walk-found (suc left) at k n a = go (λ to. walk-found left to (k + 1) (omega arith)) (step_of s at k) refl a
    where
      there : item_at s at ≡ step_of s at k
      there = items.step-item s at k p e (omega arith)

      go : ((to : ℕ) → Accepted (walk (suc left) s to (k + 1)) → Listing s to (reached to (walk (suc left) s to (k + 1))) left)
          → (x : Step) → step_of s at k ≡ x → Accepted (x ∷ onward x (λ to. walk (suc left) s to (k + 1)))
          → Listing s at (reached at (x ∷ onward x (λ to. walk (suc left) s to (k + 1)))) (suc left)
      go ih (Ok (Some i)) q a =
          let w = item-stands s at i (there ∙ q) in
          let next : i.next ≡ w.end = ap (λ (x : Item). x.next) w.says in
          let c = item-found s b at w.fits w.end w.run in
          let rest = ih i.next a.1 in
          record {
            contents = c.content ∷ rest.contents;
            many = ap suc rest.many;
            fits = (c.fits, rest.fits);
            bytes = c.bytes ∙ ap (content_then c.content) (ap (λ to. drop to s) (sym next) ∙ rest.bytes);
          }
      go ih (Ok None) q a = absurd (never-over s at (there ∙ q))
      go ih (Err m) q a = absurd (let z : number_of_refusal m ≡ 43 = ap number_of_refusal (refused-43 s at m (there ∙ q)) in let y : number_of_refusal m ≡ 0 = a.0 in omega arith)

-- what is read as a list
pub record Said (s : List ℕ) : Type 0 where
  pub of : OfNrtIt s
  pub body : Body
  pub fits : FitBody body
  pub bytes : drop 8 s ≡ body_of body

module _ (s : List ℕ) (b : Octets s) where
  body-found : (p : Programme) → Listed s p → (to : ℕ) → Listing s 17 to (num_content_items s) → (o : Loop) → Ends s to o → Said s
  unfolding body_of
  body-found p r to l o w =
      let long : 17 ≤ length s = r.long in
      let fits : to + 1 ≤ length s = w.fits in
      let loop = run-reads (num_descriptors s to) s b (to + 1) (length s) w.run in
      let count : length loop.loop ≡ byte s to = loop.many in
      let rest : drop to s ≡ length loop.loop ∷ loop_bytes loop.loop
      = one s to (omega arith)
      ∙ ap (λ m. byte s to ∷ m) (loop.bytes ∙ ap (λ m. loop_bytes loop.loop ++ m) (drop-length s) ∙ append-nil (loop_bytes loop.loop))
      ∙ ap (λ m. m ∷ loop_bytes loop.loop) (sym count) in
      let split : number s 14 2 / 2 ^ 11 * 2 ^ 11 + number s 14 2 % 2 ^ 11 ≡ number s 14 2 = div-add-mod' (number s 14 2) (2 ^ 11) in
      record {
        of = record { header = r.header; sound = r.sound; table = r.table };
        body =
            record {
              service = number s 8 2;
              start = number s 10 4;
              reserved = number s 14 2 / 2 ^ 11;
              minutes = time_span_length s;
              items = l.contents;
              descriptors = loop.loop;
            };
        fits =
            record {
              service = number_fits s b 8 2;
              start = number_fits s b 10 4;
              reserved = omega (arith, number_fits s b 14 2);
              minutes = omega arith;
              listed = rw l.many (b 16);
              items = l.fits;
              counted = rw count (b to);
              descriptors = loop.fits;
            };
        bytes =
            field-reads s b 8 2 (omega arith)
            ∙ ap (λ m. digits 2 (number s 8 2) ++ m)
            (field-reads s b 10 4 (omega arith)
            ∙ ap (λ m. digits 4 (number s 10 4) ++ m)
            (field-reads s b 14 2 (omega arith)
            ∙ ap (λ m. digits 2 (number s 14 2) ++ m)
            (one s 16 (omega arith)
            ∙ ap (λ m. byte s 16 ∷ m) (l.bytes ∙ ap (contents_then l.contents) rest)
            ∙ ap (λ n. n ∷ contents_then l.contents (length loop.loop ∷ loop_bytes loop.loop)) (sym l.many))))
            ∙ rw split;
      }

  pub read_bytes : Unrefused (answers_to s) → Said s
  read_bytes u = reads (read_of s) refl
    where
      none : (n : Refusal) → ¬ (number_of_refusal n ≡ 0)
      none n z = let l : 0 < number_of_refusal n = (in_byte n).0 in omega arith

      owns : (p : Programme) → Listed s p → (to : ℕ) → Listing s 17 to (num_content_items s) → (x : Own) → own_of s to ≡ x → (own_told x).number ≡ 0 → Said s
      owns p r to l (Ok o) q z = body-found p r to l o (own-ends s to o q)
      owns p r to l (Err n) q z = absurd (none n z)

      reads : (r : Reading) → read_of s ≡ r → Said s
      reads (Err n) q =
          let z : (reading_told (Err n)).number ≡ 0 = rw q at u.reading in
          absurd (none n z)
      reads (Ok p) q =
          let r = listed s p q in
          let many : 0 + num_content_items s ≡ p.items = (let z : p.items ≡ num_content_items s = ap (λ (x : Programme). x.items) r.says in omega arith) in
          let l : Listing s 17 (reached 17 (walk_of s)) (num_content_items s)
          = (let e : num_content_items s + 1 ≡ suc (num_content_items s) = omega arith in
          rw e (walk-found s b p q (num_content_items s) 17 0 many (rw e at u.steps))) in
          owns p r (reached 17 (walk_of s)) l (own_of s (reached 17 (walk_of s))) refl u.own

-- the answers to a list refuse nothing
steps-accepted : (cs : List Content) (at : ℕ) → Accepted (steps_in at cs)
steps-accepted [] at = (refl, tt)
steps-accepted (c ∷ cs) at = (refl, steps-accepted cs (at + length (content_bytes c)))

pub exactly : (s : List ℕ) → Exactly s
exactly s b a = (
  λ w.
      let u : Unrefused (answers_to s) = rw w.0 w.1 in
      let r = read_bytes s b u in
      (r.of, (r.body, r.fits, r.bytes, sym w.0 ∙ bytes_read s r.of r.body r.fits r.bytes)),
  λ w.
      let x = w.1 in
      let e : answers_to s ≡ answers_of x.0 = bytes_read s w.0 x.0 x.1 x.2 in
      (e ∙ sym x.3, rw x.3 (record { reading = refl; steps = steps-accepted x.0.items 17; own = refl })),
)
