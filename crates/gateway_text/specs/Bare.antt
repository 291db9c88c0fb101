-- The text of an answer that is a header alone: fixed bytes, and its numbers between them.
use Rattle.std.specs.Prelude.{ℕ, List, [], ◌++◌, ◌==◌, if◌then◌else◌, codes, decimal}
use Rattle.json.specs.Print.{escape}
use Rattle.kv_model.specs.declared.ids.Ids.{Ids}

-- the digits of a number, as they stand in a string, between these; and nothing for 0
abbrev pub number_between : List ℕ → ℕ → List ℕ → List ℕ
number_between before n behind = if n == 0 then [] else before ++ (escape (decimal n) ++ behind)

unfoldable pub bare_text : Ids → ℕ → List ℕ
bare_text ids r = codes "{\"header\":{" ++ (number_between (codes "\"cluster_id\":\"") ids.cluster (codes "\",")
    ++ (number_between (codes "\"member_id\":\"") ids.member (codes "\",")
    ++ (codes "\"raft_term\":\"1\"" ++ (number_between (codes ",\"revision\":\"") r (codes "\"") ++ codes "}}"))))
