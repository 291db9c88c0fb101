-- The texts of the replies to requests that are not read.
use Rattle.std.proofs.Common.{◌≡◌, refl, codes, true}
use Rattle.std.specs.Fmt.{digits}
use Rattle.json.specs.Print.{escape_byte}
use Rattle.kv_model.specs.Answers.{fault_text}
use Rattle.http_reply.specs.declared.front.Front.TheVariants as front
use Rattle.http_reply.specs.Replies.{refusal_bytes, reply_bytes}

pub head_refused : refusal_bytes front.Head ≡ reply_bytes (record { status = 400; body = codes "{\"code\":3,\"error\":\"http: bad head\",\"message\":\"http: bad head\"}" }) true
unfolding fault_text escape_byte digits
head_refused = refl

pub length_refused : refusal_bytes front.Length ≡ reply_bytes (record { status = 400; body = codes "{\"code\":3,\"error\":\"http: bad length\",\"message\":\"http: bad length\"}" }) true
unfolding fault_text escape_byte digits
length_refused = refl

pub long_refused : refusal_bytes front.TooLong ≡ reply_bytes (record { status = 400; body = codes "{\"code\":3,\"error\":\"http: too long\",\"message\":\"http: too long\"}" }) true
unfolding fault_text escape_byte digits
long_refused = refl
