-- Each number of refusal, and the words of document 01 that it is given exactly by: those of its row, where no row before it
-- in the order of the call holds.
use Rattle.std.specs.Prelude.{ℕ, ◌+◌, ◌<◌, ◌≤◌, ◌≡◌, ◌↔◌, length}
use Rattle.clock_activation.specs.declared.Activation.{Activation}
use Rattle.clock_activation.specs.Limits.{memory, most_held}
use Rattle.clock_record.specs.Book.{Book}
use Rattle.clock.specs.Spoiled.{Holds, Spoiled}
use Rattle.clock.specs.Offer.{offer_in}
use Rattle.clock.specs.Move.{move_in}
use Rattle.clock.specs.Ask.{time_in, state_in}
use Rattle.clock.specs.Codes.{heard_code, moved_code, time_code, state_code, refusal_of}

abbrev pub offer_refusal : Book → Activation → ℕ
offer_refusal b a = refusal_of (heard_code (offer_in b a).answer)

abbrev pub move_refusal : Book → ℕ → ℕ
move_refusal b to = refusal_of (moved_code (move_in b to).answer)

abbrev pub time_refusal : Book → ℕ
time_refusal b = refusal_of (time_code (time_in b))

abbrev pub state_refusal : Book → ℕ → ℕ
state_refusal b n = refusal_of (state_code (state_in b n))

-- no row of the table holds
abbrev pub NoneOffered : Book → Activation → Type 0
NoneOffered b a = ¬ Spoiled b × (a.application ≤ 7) × (b.now ≤ a.time + memory) × (¬ Holds b a) × (length b.held < most_held)

pub record OfferWhen (b : Book) (a : Activation) : Type 0 where
  pub no35 : (offer_refusal b a ≡ 35) ↔ Spoiled b
  pub no30 : (offer_refusal b a ≡ 30) ↔ (¬ Spoiled b × (7 < a.application))
  pub no32 : (offer_refusal b a ≡ 32) ↔ (¬ Spoiled b × (a.application ≤ 7) × (a.time + memory < b.now))
  pub no33 : (offer_refusal b a ≡ 33) ↔ (¬ Spoiled b × (a.application ≤ 7) × (b.now ≤ a.time + memory) × Holds b a)
  pub no34 : (offer_refusal b a ≡ 34)
      ↔ (¬ Spoiled b × (a.application ≤ 7) × (b.now ≤ a.time + memory) × (¬ Holds b a) × (most_held ≤ length b.held))
  pub none : (offer_refusal b a ≡ 0) ↔ NoneOffered b a

pub record MoveWhen (b : Book) (to : ℕ) : Type 0 where
  pub no35 : (move_refusal b to ≡ 35) ↔ Spoiled b
  pub no31 : (move_refusal b to ≡ 31) ↔ (¬ Spoiled b × (to < b.now))
  pub none : (move_refusal b to ≡ 0) ↔ (¬ Spoiled b × (b.now ≤ to))

abbrev pub TimeWhen : Book → Type 0
TimeWhen b = (time_refusal b ≡ 35) ↔ Spoiled b

pub record StateWhen (b : Book) (n : ℕ) : Type 0 where
  pub no35 : (state_refusal b n ≡ 35) ↔ Spoiled b
  pub no30 : (state_refusal b n ≡ 30) ↔ (¬ Spoiled b × (7 < n))
