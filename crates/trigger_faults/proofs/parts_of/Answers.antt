-- `trigger_faults::parts_of` meets its contract: each part's fault decides, and the places are the definition's. Assumes nothing.
use borrow.Author.Rules.{rules}
use native.Mathlib.Omega.{arith}
use mathlib.Core.Path.{◌≡◌, sym, ap, ◌∙◌}
use Prim.Native.Nat.{◌+◌, ◌≤◌}
use lib.ListN.{length}
use Rattle.std.specs.Prelude.{Ok, Err}
use Rattle.base.specs.Bytes.{word}
use Rattle.refusal.proofs.Numbers.{handed_on}
use Rattle.trigger_faults.specs.Fields.{target_at, user_at}
use Rattle.trigger_faults.specs.Parts.{head_fault, target_fault, user_fault, parts_of}
use Rattle.trigger_faults.proofs.Exits.{head-sound, target_sound, read_head, read-target, read-user, placed}
use Rattle.trigger_faults.proofs.parts_of.Goals as goal

pub returns-in_err-head_fault : goal.returns-in_err-head_fault
unfolding parts_of
returns-in_err-head_fault c = handed_on c.from_residual.result c.from_residual.ensures.1 ∙ read_head Err _ c.args.payload.now (search rules)

pub word_at-requires : goal.word_at-requires
word_at-requires c = let head : Ok tt ≡ head_fault c.args.payload.now = search rules in
    (head-sound _ (sym head)).sized

pub returns-in_err-target_fault : goal.returns-in_err-target_fault
unfolding parts_of
returns-in_err-target_fault c = let head : Ok tt ≡ head_fault c.args.payload.now = search rules in
    let place : 3 + c.from-target.result ≡ target_at c.args.payload.now = ap (λ n. 3 + n) (search rules) in
    handed_on c.from_residual-in_err-target_fault.result c.from_residual-in_err-target_fault.ensures.1
    ∙ read-target Err _ c.args.payload.now (sym head) (rw (← place) (search rules))

pub word_at-requires-2 : goal.word_at-requires-2
word_at-requires-2 c = let place : 3 + c.from-target.result ≡ target_at c.args.payload.now = ap (λ n. 3 + n) (search rules) in
    let aimed : Ok tt ≡ target_fault c.args.payload.now (target_at c.args.payload.now) = rw (← place) (search rules) in
    let h : target_at c.args.payload.now + 3 ≤ length c.args.payload.now = (target_sound _ _ (sym aimed)).sized in let e = place in omega arith

pub returns-in_err-user_fault : goal.returns-in_err-user_fault
unfolding parts_of
returns-in_err-user_fault c = let head : Ok tt ≡ head_fault c.args.payload.now = search rules in
    let place : 3 + c.from-target.result ≡ target_at c.args.payload.now = ap (λ n. 3 + n) (search rules) in
    let aimed : Ok tt ≡ target_fault c.args.payload.now (target_at c.args.payload.now) = rw (← place) (search rules) in
    let end : 3 + c.from-target.result + 3 + c.from.result ≡ user_at c.args.payload.now = let w : c.from.result ≡ word c.args.payload.now (3 + c.from-target.result + 1) = search rules in rw (w, place) in
    handed_on c.from_residual-in_err-user_fault.result c.from_residual-in_err-user_fault.ensures.1
    ∙ read-user Err _ c.args.payload.now (sym head) (sym aimed) (rw (← end) (search rules))

pub returns : goal.returns
returns c = let head : Ok tt ≡ head_fault c.args.payload.now = search rules in
    let place : 3 + c.from-target.result ≡ target_at c.args.payload.now = ap (λ n. 3 + n) (search rules) in
    let aimed : Ok tt ≡ target_fault c.args.payload.now (target_at c.args.payload.now) = rw (← place) (search rules) in
    let end : 3 + c.from-target.result + 3 + c.from.result ≡ user_at c.args.payload.now = let w : c.from.result ≡ word c.args.payload.now (3 + c.from-target.result + 1) = search rules in rw (w, place) in
    let left : Ok tt ≡ user_fault c.args.payload.now (user_at c.args.payload.now) = rw (← end) (search rules) in
    placed _ place end (record { head = sym head; target = sym aimed; user = sym left })
