-- What was there before stays in front, whatever was decoded.
use Rattle.std.proofs.Common.{rules, ◌≡◌, ℕ, List, length, take, Bool, false, Result, Ok, Err, MatchResult, OnOk, OnErr, ◌∙◌, ap}
use Rattle.std.proofs.Math.Seq.{take-length}
use Rattle.std.specs.Prelude.{⊤}
use Rattle.std.specs.declared.alloc.AllocError.{AllocError}
use Rattle.base64.specs.declared.decode.DecodeAllocError.{DecodeAllocError}
use Rattle.base64.specs.declared.decode.DecodeAllocError.TheVariants as failure
use Rattle.gateway_read.specs.Decoding.{IsDecoded}
use Rattle.gateway_read.proofs.symbols.append_by.Goals as goal

kept : (made : Result ⊤ DecodeAllocError) (r : Result Bool AllocError) (before behind : List ℕ) → IsDecoded made r
    → OnOk made (take (length before) behind ≡ before) → OnErr made (behind ≡ before) → OnOk r (take (length before) behind ≡ before)
kept (Ok u) r before behind is h e = rw is h
kept (Err (failure.DecodeError x)) r before behind is h e = rw is (ap (take (length before)) e ∙ take-length before)
kept (Err failure.OutOfMemory) (Ok b) before behind is h e = cc
kept (Err failure.OutOfMemory) (Err x) before behind is h e = tt

left : (made : Result ⊤ DecodeAllocError) (r : Result Bool AllocError) (before behind : List ℕ) → IsDecoded made r → OnErr made (behind ≡ before)
    → MatchResult r (λ done. done ≡ false → behind ≡ before) (λ _. behind ≡ before)
left (Ok u) r before behind is e = rw is (λ t. cc)
left (Err (failure.DecodeError x)) r before behind is e = rw is (λ t. e)
left (Err failure.OutOfMemory) (Ok b) before behind is e = cc
left (Err failure.OutOfMemory) (Err x) before behind is e = e

pub returns-clause-same : goal.returns-clause-same
returns-clause-same c = left c.decode_vec.result c.by_form.result c.args.into.now.items c.decode_vec.new.buffer.items c.by_form.ensures c.decode_vec.ensures.same

pub returns-clause-front : goal.returns-clause-front
returns-clause-front c = kept c.decode_vec.result c.by_form.result c.args.into.now.items c.decode_vec.new.buffer.items c.by_form.ensures (search rules) c.decode_vec.ensures.same
