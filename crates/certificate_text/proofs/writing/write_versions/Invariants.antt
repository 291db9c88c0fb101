use Rattle.std.proofs.Common.{◌≡◌, ◌++◌, drop, map, string_bytes}
use Rattle.certificate_text.specs.Texts.{version_line, written}
use Rattle.certificate_text.proofs.writing.write_versions.Given as goal

abbrev pub invariant-loop-version : goal.invariant-loop-version
invariant-loop-version l = string_bytes l.out ++ written (map version_line (drop l.version-index l.versions))
    ≡ string_bytes l.fn.out ++ written (map version_line l.versions)
