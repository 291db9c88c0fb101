use Rattle.std.proofs.Common.{◌≡◌, ◌≤◌, ℕ, List, length, drop, take, map, sym, ◌∙◌, inr, ap, arith, rules}
use Rattle.std.proofs.lemmas.List.{length-map, length-take}
use Rattle.httparse.specs.Grammar.{Field}
use Rattle.httparse.specs.Spans.{AreFieldsAt, header_bytes, name_and_value}
use Rattle.httparse.specs.declared.spans.HeaderSpan.{HeaderSpan}
use Rattle.http_head.proofs.head.judged.Goals as goal

few_fields : (text : List ℕ) (lines : List HeaderSpan) (n : ℕ) (fields : List Field) → AreFieldsAt text lines n fields → length lines ≤ 64 → length fields ≤ 64
few_fields text lines n fields e few =
    let same : length (take n lines) ≡ length fields = sym (length-map (take n lines) (header_bytes text)) ∙ ap length e ∙ length-map fields name_and_value in
    omega (arith, same, few, length-take n lines)

pub returns-in-Err-Over : goal.returns-in-Err-Over
returns-in-Err-Over c =
    let r = c.requires.reads in
    let few = few_fields c.args.text.now c.args.lines.now c.args.spans.headers r.0.fields r.1.fields c.requires.few in
    inr (r.0, drop c.args.spans.len c.args.text.now, record { reads = r.1.reads; minor = sym r.1.version ∙ c.if-spans-ne1.false; few = few }, search rules)
