use Rattle.std.proofs.Common.{◌≡◌, ◌++◌, List, length, map, take, All}
use Rattle.std.specs.Prelude.{flat_map}
use Rattle.hwdb_spec.specs.Assignment.{Assignment}
use Rattle.hwdb_spec.specs.Folders.{within_64_bits}
use Rattle.hwdb_spec.specs.Tree.{surviving}
use Rattle.hwdb_compile.specs.Views.{FewLines, fault_of}
use Rattle.hwdb_text.specs.Views.{bytes_in}
use Rattle.hwdb_compile.specs.Internal.Reading.{assignments_in, faults_in}
use Rattle.hwdb_compile.proofs.compiler.add_files.Given as goal

abbrev pub invariant-loop-i : goal.invariant-loop-i
invariant-loop-i l =
    let files = take l.i l.files in
    record {
      tree : (done : List Assignment) → l.fn.tree ≡ surviving done → l.tree ≡ surviving (done ++ flat_map assignments_in files);
      faults : map fault_of l.faults.items ≡ map fault_of l.fn.faults.items ++ flat_map faults_in files;
      given : l.given ≡ within_64_bits (length (flat_map assignments_in files));
      few : All (λ f. FewLines (bytes_in f)) files;
    }
