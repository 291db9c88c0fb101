-- What is said of the text of a certificate.
use Rattle.std.specs.Prelude.{◌≡◌, ℕ, List, [], ◌∷◌, ◌++◌, None, length, codes, decimal}
use Rattle.kv_model.specs.Certificates.{first_fault, AreNeedsOf, Dump, Claim}
use Rattle.certificate_text.specs.Lines.{lines_of, IsTextOf, IsFirstUnreadable}
use Rattle.witness_core.specs.Faults.{IsFault}
use Rattle.witness_core.specs.declared.fault.NeedFault.{NeedFault}
use Rattle.witness_core.specs.declared.fault.NeedFault.TheVariants as fault
use Rattle.commands.specs.declared.judging.Verdict.{Verdict}
use Rattle.commands.specs.declared.judging.Verdict.TheVariants as verdict
use Rattle.commands.specs.Replies.{rev_text}

-- the text lists so many versions, its claims pass the check, and so each version has its need among them
pub record Passes (text : List ℕ) (n : ℕ) : Type 0 where
  pub dump : Dump
  pub claims : List Claim
  pub read : IsTextOf text dump claims
  pub passes : first_fault dump claims ≡ None
  pub needs : AreNeedsOf dump.floor dump.revision dump.versions dump.versions claims
  pub count : n ≡ length dump.versions

-- the text is that of a dump and its claims, and this is the first fault of theirs
pub record Fails (text : List ℕ) (f : NeedFault) : Type 0 where
  pub dump : Dump
  pub claims : List Claim
  pub read : IsTextOf text dump claims
  pub first : IsFault f (first_fault dump claims)

abbrev pub IsVerdict : List ℕ → Verdict → Type 0
IsVerdict text (verdict.Least n) = Passes text n
IsVerdict text (verdict.Refused f) = Fails text f
IsVerdict text (verdict.Unreadable n) = IsFirstUnreadable (lines_of text) n

-- ---- its line

abbrev pub fault_text : NeedFault → List ℕ
fault_text (fault.NotRising p) = codes "not rising " ++ rev_text p
fault_text (fault.DoubleKey p) = codes "double key " ++ rev_text p
fault_text (fault.NoNeed p) = codes "no need " ++ rev_text p
fault_text (fault.NeedUnmet p) = codes "need unmet " ++ rev_text p
fault_text fault.Extra = codes "extra"
fault_text fault.Memory = codes "out of memory"

abbrev pub verdict_line : Verdict → List ℕ
verdict_line (verdict.Least n) = codes "least " ++ decimal n ++ 10 ∷ []
verdict_line (verdict.Refused f) = codes "refused: " ++ fault_text f ++ 10 ∷ []
verdict_line (verdict.Unreadable n) = codes "unreadable: line " ++ decimal n ++ 10 ∷ []
