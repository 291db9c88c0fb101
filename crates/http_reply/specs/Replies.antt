-- The bytes of HTTP/1.1 messages (RFC 9112, sections 2.1, 4, 5, 6 and 7.1).
use Rattle.std.specs.Prelude.{ℕ, ◌+◌, List, [], ◌∷◌, ◌++◌, length, Bool, true, false, ◌==◌, if◌then◌else◌, Option, None}
use Rattle.std.specs.Prelude.{Some, codes, decimal}
use Rattle.std.specs.Fmt.{digits}
use Rattle.kv_model.specs.Answers.{Fault, Response, fault, refused}
use Rattle.http_reply.specs.declared.front.Front.{Front}
use Rattle.http_reply.specs.declared.front.Front.TheVariants as front

-- CR LF
abbrev pub line_end : List ℕ
line_end = 13 ∷ 10 ∷ []

-- the reason phrase of a status
abbrev pub reason : ℕ → List ℕ
reason status = if status == 200 then codes "OK"
    else (if status == 400 then codes "Bad Request"
    else (if status == 404 then codes "Not Found" else codes "Internal Server Error"))

abbrev pub status_line : ℕ → List ℕ
status_line status = codes "HTTP/1.1 " ++ decimal status ++ codes " " ++ reason status ++ line_end

-- a field line
abbrev pub field : List ℕ → List ℕ → List ℕ
field name value = name ++ codes ": " ++ value ++ line_end

abbrev pub content_type : List ℕ
content_type = field (codes "Content-Type") (codes "application/json")

abbrev pub content_length : List ℕ → List ℕ
content_length body = field (codes "Content-Length") (decimal (length body))

abbrev pub connection_close : List ℕ
connection_close = field (codes "Connection") (codes "close")

-- a whole reply, after which the connection is closed or not: status line, fields, an empty line, body
unfoldable pub reply_bytes : Response → Bool → List ℕ
reply_bytes r close = status_line r.status ++ content_type ++ content_length r.body
    ++ (if close then connection_close else []) ++ line_end ++ r.body

-- what stands before the messages of a stream, whose connection is closed after it
unfoldable pub stream_head : List ℕ
stream_head = status_line 200 ++ content_type ++ field (codes "Transfer-Encoding") (codes "chunked")
    ++ connection_close ++ line_end

-- a message and a line feed, as one chunk: their length, its line end, they themselves, a line end
unfoldable pub chunk : List ℕ → List ℕ
chunk message = digits 16 false (length message + 1) ++ line_end ++ message ++ 10 ∷ line_end

-- what ends a stream: the chunk of length 0, and no trailer
abbrev pub last_chunk : List ℕ
last_chunk = codes "0" ++ line_end ++ line_end

-- ---- a request that is not read

-- its words, where it is told of
abbrev pub words_of : Front → Option Fault
words_of front.Head = Some (fault 400 3 (codes "http: bad head"))
words_of front.Length = Some (fault 400 3 (codes "http: bad length"))
words_of front.TooLong = Some (fault 400 3 (codes "http: too long"))
words_of _ = None

-- and the reply, after which the connection is closed
abbrev pub refusal_by : Option Fault → List ℕ
refusal_by None = []
refusal_by (Some f) = reply_bytes (refused f) true

abbrev pub refusal_bytes : Front → List ℕ
refusal_bytes f = refusal_by (words_of f)
