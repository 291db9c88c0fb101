use Rattle.std.proofs.Common.{sym, ap, ◌∙◌}
use Rattle.std.specs.List.{list_any}
use Rattle.gateway_read.specs.Signs.{is_url, is_padding}
use Rattle.gateway_read.proofs.Signs.{plain, decoded-by}
use Rattle.gateway_read.proofs.symbols.append_decoded.Goals as goal

pub returns-in_ok-standard_symbols-clause-value : goal.returns-in_ok-standard_symbols-clause-value
returns-in_ok-standard_symbols-clause-value c =
    let padding = c.signs_of-signs.ensures.padding ∙ ap (list_any is_padding) c.as_bytes.ensures.value in
    rw (decoded-by c.args.text.now _ _ padding (c.deref.ensures.value ∙ c.in_ok-standard_symbols.ensures)) c.append_with.ensures.value

pub returns-else-signs-clause-value : goal.returns-else-signs-clause-value
returns-else-signs-clause-value c =
    let padding = c.signs_of-signs.ensures.padding ∙ ap (list_any is_padding) c.as_bytes.ensures.value in
    let bare = sym (c.signs_of-signs.ensures.url ∙ ap (list_any is_url) c.as_bytes.ensures.value) ∙ c.if-signs.false in
    rw (decoded-by c.args.text.now _ _ padding (c.as_bytes-else-signs.ensures.value ∙ sym (plain c.args.text.now bare)))
    c.append_with-else-signs.ensures.value
