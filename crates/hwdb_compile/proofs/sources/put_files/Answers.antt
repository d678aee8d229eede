use Rattle.hwdb_compile.specs.Internal.Reading.{bytes_at}
use Rattle.hwdb_compile.proofs.GatherLemmas.{put_at, files_step, no_files}
use Rattle.hwdb_compile.proofs.sources.put_files.Goals as goal

pub files-preserved : goal.files-preserved
files-preserved c = λ name.
    files_step name c.files.rest.now c.in-Some.before.now c.in-Some.file.now (bytes_at c.files.index name) _ _ c.deref.result.now c.deref-in-Some.result.now
    (c.files.invariant name) c.in-Some.ensures.cases.0
    (put_at c.files.index c.insert.new.self c.deref.result c.deref-in-Some.result name (c.in_ok-insert.ensures.updates.0 (record c.deref.result { now = name })))
    c.deref.ensures c.deref-in-Some.ensures.value

pub returns : goal.returns
returns c = λ name. no_files name c.files.rest.now _ _ (c.files.invariant name) c.in_default.ensures.cases
