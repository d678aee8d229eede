use Rattle.std.proofs.Common.{subst, List, ℕ}
use Rattle.hwdb_sysfs.specs.Finding.{IsUnfound}
use Rattle.hwdb_tool.proofs.missing.place_meant.Goals as goal

pub returns-in-Err-clause-found : goal.returns-in-Err-clause-found
returns-in-Err-clause-found g c = λ tells.
    c.place_else.ensures.found tells c.args.root.now
    (subst (λ (root : List ℕ). IsUnfound (g.F.DeviceFiles.answers c.args.files.now) root c.args.sys.now c.args.given.now c.in-Err.why)
    c.as_bytes.ensures.value (c.in-Err.ensures.unfound tells))

pub returns-in-Err-clause-refused : goal.returns-in-Err-clause-refused
returns-in-Err-clause-refused g c = λ tells.
    c.place_else.ensures.refused tells c.args.root.now
    (subst (λ (root : List ℕ). IsUnfound (g.F.DeviceFiles.answers c.args.files.now) root c.args.sys.now c.args.given.now c.in-Err.why)
    c.as_bytes.ensures.value (c.in-Err.ensures.unfound tells))
