-- `trigger_faults::target_fault` meets its contract: at each return the tests that led there decide the row. Assumes nothing.
use mathlib.Core.Path.{◌≡◌, ap, ◌∙◌}
use Prim.Native.Nat.{◌+◌}
use Rattle.base.specs.Bytes.{byte, word}
use Rattle.trigger_faults.specs.Kinds.{type_of}
use Rattle.trigger_faults.specs.Fields.{wrong_length, is_uri}
use Rattle.trigger_faults.proofs.Types.{kind-length, kind_uri}
use borrow.Author.Rules.{rules}
use Rattle.base.proofs.Tests.{tests}
use Rattle.trigger_faults.specs.Parts.{target_fault}
use Rattle.trigger_faults.proofs.target_fault.Goals as goal

pub returns-then-size-at : goal.returns-then-size-at
unfolding target_fault
returns-then-size-at c = search tests

pub returns-then-wrong : goal.returns-then-wrong
unfolding target_fault
returns-then-wrong c = let given : c.from-length.result ≡ word c.args.payload.now (c.args.at + 1) = search rules in
    let wrong : c.is_wrong_length-wrong.result ≡ wrong_length (byte c.args.payload.now c.args.at) c.from-length.result = c.is_wrong_length-wrong.ensures ∙ ap (λ k. wrong_length (type_of k) c.from-length.result) c.from-kind.ensures ∙ kind-length _ _ in
    rw (← given, ← wrong, c.if-wrong.true) (search tests)

pub returns-then-size-after : goal.returns-then-size-after
unfolding target_fault
returns-then-size-after c = let given : c.from-length.result ≡ word c.args.payload.now (c.args.at + 1) = search rules in
    let wrong : c.is_wrong_length-wrong.result ≡ wrong_length (byte c.args.payload.now c.args.at) c.from-length.result = c.is_wrong_length-wrong.ensures ∙ ap (λ k. wrong_length (type_of k) c.from-length.result) c.from-kind.ensures ∙ kind-length _ _ in
    rw (← given, ← wrong, c.if-wrong.false) (search tests)

pub returns-then-is_high : goal.returns-then-is_high
unfolding target_fault
returns-then-is_high c = let given : c.from-length.result ≡ word c.args.payload.now (c.args.at + 1) = search rules in
    let wrong : c.is_wrong_length-wrong.result ≡ wrong_length (byte c.args.payload.now c.args.at) c.from-length.result = c.is_wrong_length-wrong.ensures ∙ ap (λ k. wrong_length (type_of k) c.from-length.result) c.from-kind.ensures ∙ kind-length _ _ in
    let uri : c.is_uri.result ≡ is_uri (byte c.args.payload.now c.args.at) = c.is_uri.ensures ∙ ap (λ k. is_uri (type_of k)) c.from-kind.ensures ∙ kind_uri _ in
    rw (← given, ← wrong, c.if-wrong.false, ← uri, c.if-is_uri.true, ← c.is_high.ensures, c.if-is_high.true) (search tests)

pub returns-else-is_high : goal.returns-else-is_high
unfolding target_fault
returns-else-is_high c = let given : c.from-length.result ≡ word c.args.payload.now (c.args.at + 1) = search rules in
    let wrong : c.is_wrong_length-wrong.result ≡ wrong_length (byte c.args.payload.now c.args.at) c.from-length.result = c.is_wrong_length-wrong.ensures ∙ ap (λ k. wrong_length (type_of k) c.from-length.result) c.from-kind.ensures ∙ kind-length _ _ in
    let uri : c.is_uri.result ≡ is_uri (byte c.args.payload.now c.args.at) = c.is_uri.ensures ∙ ap (λ k. is_uri (type_of k)) c.from-kind.ensures ∙ kind_uri _ in
    rw (← given, ← wrong, c.if-wrong.false, ← uri, c.if-is_uri.true, ← c.is_high.ensures, c.if-is_high.false) (search tests)

pub returns-else-is_uri : goal.returns-else-is_uri
unfolding target_fault
returns-else-is_uri c = let given : c.from-length.result ≡ word c.args.payload.now (c.args.at + 1) = search rules in
    let wrong : c.is_wrong_length-wrong.result ≡ wrong_length (byte c.args.payload.now c.args.at) c.from-length.result = c.is_wrong_length-wrong.ensures ∙ ap (λ k. wrong_length (type_of k) c.from-length.result) c.from-kind.ensures ∙ kind-length _ _ in
    let uri : c.is_uri.result ≡ is_uri (byte c.args.payload.now c.args.at) = c.is_uri.ensures ∙ ap (λ k. is_uri (type_of k)) c.from-kind.ensures ∙ kind_uri _ in
    rw (← given, ← wrong, c.if-wrong.false, ← uri, c.if-is_uri.false) (search tests)
