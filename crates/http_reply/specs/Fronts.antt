-- Why a connection is not answered to its end.
use Rattle.std.specs.Prelude.{ℕ}
use Rattle.http_reply.specs.declared.front.Front.{Front}
use Rattle.http_reply.specs.declared.front.Front.TheVariants as front

-- the number by which logs and tests name it
abbrev pub number_of : Front → ℕ
number_of front.Head = 1
number_of front.Length = 2
number_of front.TooLong = 3
number_of front.Read = 4
number_of front.End = 5
number_of front.Memory = 6
number_of (front.Write n) = 7
number_of front.Spawn = 8
number_of front.Accept = 9
number_of front.Unclosed = 10
