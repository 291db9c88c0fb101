-- The pieces of a message, one behind the other, are its text.
use Rattle.std.proofs.Common.{◌≡◌, ℕ, ◌+◌, List, [], ◌∷◌, ◌++◌, length, Bool, false, codes, decimal, if◌then◌else◌, sym, ap, ◌∙◌, append_assoc, append-nil}
use Rattle.std.specs.Fmt.{digits}
use Rattle.http_reply.specs.Replies.{reply_bytes, chunk, connection_close, content_type, field, line_end, reason}

four : (a b c d : List ℕ) → a ++ b ++ c ++ d ≡ a ++ (b ++ (c ++ (d ++ [])))
four a b c d = simp (append_assoc, append-nil)

-- of a reply, with `colon` for what parts a field's name from its value
regrouped : (version code space why end kind name colon size close body : List ℕ)
    → (version ++ code ++ space ++ why ++ end) ++ kind ++ (name ++ colon ++ size ++ end) ++ close ++ end ++ body
    ≡ version ++ (code ++ (space ++ (why ++ ((end ++ kind ++ name ++ colon) ++ (size ++ (end ++ (close ++ (end ++ (body ++ [])))))))))
regrouped version code space why end kind name colon size close body = simp (append_assoc, append-nil)

pub reply_laid : (status : ℕ) (body : List ℕ) (closing : Bool) (code why size close : List ℕ)
    → code ≡ decimal status → why ≡ reason status → size ≡ decimal (length body) → close ≡ (if closing then connection_close else [])
    → reply_bytes (record { status = status; body = body }) closing
    ≡ codes "HTTP/1.1 " ++ (code ++ (codes " " ++ (why ++ (codes "\r\nContent-Type: application/json\r\nContent-Length: " ++ (size ++ (codes "\r\n" ++ (close ++ (codes "\r\n" ++ (body ++ [])))))))))
unfolding reply_bytes
reply_laid status body closing code why size close c w s e =
    sym (λ i. (codes "HTTP/1.1 " ++ c i ++ codes " " ++ w i ++ line_end) ++ content_type ++ field (codes "Content-Length") (s i) ++ e i ++ line_end ++ body)
    ∙ regrouped (codes "HTTP/1.1 ") code (codes " ") why line_end content_type (codes "Content-Length") (codes ": ") size close body

pub chunk_laid : (message size : List ℕ) → size ≡ digits 16 false (length message + 1) → chunk message ≡ size ++ (codes "\r\n" ++ (message ++ (codes "\n\r\n" ++ [])))
unfolding chunk
chunk_laid message size s = ap (λ d. d ++ line_end ++ message ++ 10 ∷ line_end) (sym s) ∙ four size line_end message (10 ∷ line_end)
