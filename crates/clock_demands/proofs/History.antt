-- A history of the host's calls is one of the layer's.
--   host-step      a call on words that say a book leaves words that say the layer's next one, and answers the layer's number
--   host-history   so does any list of calls
use mathlib.Core.Path.{◌≡◌, refl, sym, ap, ◌∙◌}
use mathlib.Core.Bool.{true, false}
use mathlib.Core.List.{List, [], ◌∷◌, ◌++◌}
use Prim.Native.Nat.{ℕ, ◌*◌, ◌%◌, ◌^◌}
use native.Mathlib.Omega.{arith}
use lib.Dec.{ltb}
use lib.ListN.{length}
use borrow.Author.Tests.{eq-eqb, ne_eqb}
use Rattle.std.specs.Prelude.{Result, Ok, Err}
use Rattle.refusal.specs.Refusal.{number}
use Rattle.refusal.specs.declared.Refusal.{Refusal}
use Rattle.refusal.specs.declared.Refusal.TheVariants.{NoSuchAction}
use Rattle.refusal.proofs.Numbers.{in_byte}
use Rattle.base.proofs.Cases.{by}
use Rattle.clock_activation.specs.declared.Activation.{Activation}
use Rattle.clock_activation.specs.Code.{Narrow}
use Rattle.clock_record.specs.Lists.{All}
use Rattle.clock_record.specs.Book.{Book, fresh}
use Rattle.clock_record.specs.Words.{record_size, book_in, words_of}
use Rattle.clock_record.proofs.Back.{Sized, back}
use Rattle.clock.specs.declared.Heard.{Heard}
use Rattle.clock.specs.Answered.{Answered}
use Rattle.clock.specs.Offer.{offer_in}
use Rattle.clock.specs.Move.{move_in}
use Rattle.clock.specs.Record.{offer_to, move_to}
use Rattle.clock.specs.Codes.{heard_code, moved_code}
use Rattle.clock_laws.specs.History.{Call, Account, nothing_yet, heard, passed, Moment, step, steps}
use Rattle.clock_laws.proofs.Says.{offer-says, offer-long, move-says, move-long, words_long}
use Rattle.clock_answers.specs.Calls.{record_of, Called, coded, left_in, unchanged, activation, fresh_on, fresh_call, offer_call, move_call}
use Rattle.clock_demands.specs.Host.{HostCall, Typed, answered, left, left_by, answered_by, layer_call, layer_calls, code_in, book_after, codes_by, noted, host_steps}
use Rattle.clock_demands.specs.Demands.{HostHistory}
use Rattle.clock_demands.proofs.Boundary.{offer-no, offer-on, move-on, answered-code}

-- the host's account of an answer's number is the layer's of the answer
heard-noted : (k : Account) (p e x t : ℕ) (r : Result Heard Refusal)
    → noted k (HostCall.offer p e x t) (heard_code r) ≡ heard k (activation p e x t) r
heard-noted k p e x t (Ok Heard.Applied) = refl
heard-noted k p e x t (Ok Heard.Waiting) = refl
heard-noted k p e x t (Err r) =
    let f = in_byte r in
    rw (ne_eqb (number r) 256 (λ q. absurd (omega (arith, f.1))), ne_eqb (number r) 512 (λ q. absurd (omega (arith, f.1))))

moved-noted : (k : Account) (to : ℕ) (r : Result ℕ Refusal) → noted k (HostCall.move to) (moved_code r) ≡ passed k to r
moved-noted k to (Ok n) = rw (eq-eqb (n * 2 ^ 8 % 2 ^ 8) 0 (omega arith))
moved-noted k to (Err r) = let f = in_byte r in rw (ne_eqb (number r % 2 ^ 8) 0 (λ q. absurd (omega (arith, f.0, f.1))))

-- what a call has to leave and answer, beside a moment of the layer
pub record Beside (w : List ℕ) (k : Account) (t : Moment) (x : HostCall) (u : Moment) : Type 0 where
  pub long : length (left w x) ≡ 67
  pub book : book_in (left w x) ≡ u.book
  pub next : u.book ≡ book_after t.book x
  pub account : noted k x (answered w x) ≡ u.account
  pub answer : answered w x ≡ code_in t.book x

module _ (w : List ℕ) (z : length w ≡ 67) (t : Moment) (b : book_in w ≡ t.book) where
  module _ (p e x s : ℕ) (f : Typed (HostCall.offer p e x s)) where
    abbrev a : Activation
    a = activation p e x s

    narrow : Narrow a
    narrow = record { application = f.0; event = f.1 }

    call-refused : ltb 3 x ≡ true → offer_call w p e x s ≡ unchanged w NoSuchAction
    call-refused h = offer-no w p e x s h

    call-heard : ltb 3 x ≡ false → offer_call w p e x s ≡ coded heard_code (left_in w (offer_in (book_in w) a))
    call-heard h = offer-on w p e x s z h

    told-book : ltb 3 x ≡ false → book_in (offer_call w p e x s).words ≡ (offer_in t.book a).book
    unfolding offer_to
    told-book h =
        ap (λ (c : Called). book_in c.words) (call-heard h)
        ∙ ap (λ (r : Answered Heard). r.book) (offer-says (record_of w) a narrow)
        ∙ ap (λ (c : Book). (offer_in c a).book) b

    told-answer : ltb 3 x ≡ false → (offer_call w p e x s).answer ≡ heard_code (offer_in t.book a).answer
    unfolding offer_to
    told-answer h =
        ap (λ (c : Called). c.answer) (call-heard h)
        ∙ ap (λ (r : Answered Heard). heard_code r.answer) (offer-says (record_of w) a narrow)
        ∙ ap (λ (c : Book). heard_code (offer_in c a).answer) b

    offer-step : Beside w t.account t (HostCall.offer p e x s) (steps t (layer_call (HostCall.offer p e x s)))
    unfolding offer_to
    offer-step =
        by (ltb 3 x)
        (λ h.
        record {
          long = ap (λ (c : Called). length c.words) (call-refused h) ∙ z;
          book = ap (λ (c : Called). book_in c.words) (call-refused h) ∙ b ∙ rw h;
          next = rw h;
          account = ap (λ (c : Called). noted t.account (HostCall.offer p e x s) c.answer) (call-refused h) ∙ rw h;
          answer = ap (λ (c : Called). c.answer) (call-refused h) ∙ rw h;
        })
        (λ h.
        record {
          long = ap (λ (c : Called). length c.words) (call-heard h) ∙ offer-long (record_of w) a z;
          book = told-book h ∙ rw h;
          next = rw h;
          account =
              ap (noted t.account (HostCall.offer p e x s)) (told-answer h)
              ∙ heard-noted t.account p e x s (offer_in t.book a).answer
              ∙ rw h;
          answer = told-answer h ∙ rw h;
        })

  module _ (to : ℕ) where
    call-moved : move_call w to ≡ coded moved_code (left_in w (move_in (book_in w) to))
    call-moved = move-on w to z

    moved-answer : (move_call w to).answer ≡ moved_code (move_in t.book to).answer
    unfolding move_to
    moved-answer =
        ap (λ (c : Called). c.answer) call-moved
        ∙ ap (λ (r : Answered ℕ). moved_code r.answer) (move-says (record_of w) to)
        ∙ ap (λ (c : Book). moved_code (move_in c to).answer) b

    move_step : Beside w t.account t (HostCall.move to) (steps t (layer_call (HostCall.move to)))
    unfolding move_to
    move_step =
        record {
          long = ap (λ (c : Called). length c.words) call-moved ∙ move-long (record_of w) to z;
          book =
              ap (λ (c : Called). book_in c.words) call-moved
              ∙ ap (λ (r : Answered ℕ). r.book) (move-says (record_of w) to)
              ∙ ap (λ (c : Book). (move_in c to).book) b;
          next = refl;
          account =
              ap (noted t.account (HostCall.move to)) moved-answer
              ∙ moved-noted t.account to (move_in t.book to).answer;
          answer = moved-answer;
        }

  asked-step : (x : HostCall) → left w x ≡ w → book_after t.book x ≡ t.book → noted t.account x (answered w x) ≡ t.account
      → Beside w t.account t x t
  asked-step x l n k =
      record {
        long = ap length l ∙ z;
        book = ap book_in l ∙ b;
        next = sym n;
        account = k;
        answer = answered-code w z x ∙ ap (λ (c : Book). code_in c x) b;
      }

  pub host-step : (x : HostCall) → Typed x → Beside w t.account t x (steps t (layer_call x))
  host-step (HostCall.offer p e x s) f = offer-step p e x s f
  host-step (HostCall.move to) f = move_step to
  host-step HostCall.ask_time f = asked-step HostCall.ask_time refl refl refl
  host-step (HostCall.ask_state n) f = asked-step (HostCall.ask_state n) refl refl refl

steps-append : (t : Moment) (g h : List Call) → steps t (g ++ h) ≡ steps (steps t g) h
steps-append t [] h = refl
steps-append t (x ∷ g) h = steps-append (step t x) g h

-- any list of calls, from words that say a moment's book
record Besides (w : List ℕ) (t : Moment) (h : List HostCall) : Type 0 where
  pub long : length (left_by w h) ≡ 67
  pub book : book_in (left_by w h) ≡ (steps t (layer_calls h)).book
  pub answers : answered_by w h ≡ codes_by t.book h
  pub words : (host_steps (record { words = w; account = t.account }) h).words ≡ left_by w h
  pub account : (host_steps (record { words = w; account = t.account }) h).account ≡ (steps t (layer_calls h)).account

host-steps : (w : List ℕ) → length w ≡ 67 → (t : Moment) → book_in w ≡ t.book → (h : List HostCall) → All Typed h → Besides w t h
host-steps w z t b [] f = record { long = z; book = b; answers = refl; words = refl; account = refl }
host-steps w z t b (x ∷ h) f =
    let one = host-step w z t b x f.0 in
    let u : Moment = steps t (layer_call x) in
    let rest : Besides (left w x) u h = host-steps (left w x) one.long u one.book h f.1 in
    let join : steps t (layer_call x ++ layer_calls h) ≡ steps u (layer_calls h) = steps-append t (layer_call x) (layer_calls h) in
    record {
      long = rest.long;
      book = rest.book ∙ ap (λ (m : Moment). m.book) (sym join);
      answers =
          ap (λ (n : ℕ). n ∷ answered_by (left w x) h) one.answer
          ∙ ap (◌∷◌ (code_in t.book x)) (rest.answers ∙ ap (λ (c : Book). codes_by c h) one.next);
      words =
          ap (λ (k : Account). (host_steps (record { words = left w x; account = k }) h).words) one.account ∙ rest.words;
      account =
          ap (λ (k : Account). (host_steps (record { words = left w x; account = k }) h).account) one.account
          ∙ rest.account
          ∙ ap (λ (m : Moment). m.account) (sym join);
    }

fresh-sized : Sized fresh
fresh-sized = record { apps = refl; held = omega arith; each = tt }

fresh-words : (w : List ℕ) → length w ≡ 67 → (fresh_call w).words ≡ words_of fresh
unfolding fresh_on
fresh-words w z = rw (eq-eqb _ _ z)

pub host-history : (w : List ℕ) → length w ≡ record_size → (h : List HostCall) → All Typed h → HostHistory w h
host-history w z h f =
    let v : List ℕ = (fresh_call w).words in
    let e : v ≡ words_of fresh = fresh-words w z in
    let r =
    host-steps v (ap length e ∙ words_long fresh) (record { book = fresh; account = nothing_yet }) (ap book_in e ∙ back fresh fresh-sized refl) h f in
    record { long = r.long; book = r.book; answers = r.answers; words = r.words; account = r.account }
