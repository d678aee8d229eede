use Rattle.std.proofs.Common.{◌≡◌, ◌++◌, List, map, take}
use Rattle.hwdb_spec.specs.Assignment.{Assignment}
use Rattle.hwdb_text.specs.Views.{origin, given_in}
use Rattle.hwdb_spec.specs.Tree.{surviving}
use Rattle.hwdb_compile.proofs.compiler.put_all.Given as goal

abbrev pub invariant-loop-given : goal.invariant-loop-given
invariant-loop-given l =
    (done : List Assignment) → l.fn.tree ≡ surviving done → l.tree ≡ surviving (done ++ map (given_in (origin l.path l.priority)) (take l.given-index l.all))
