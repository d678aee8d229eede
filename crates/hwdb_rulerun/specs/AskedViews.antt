-- What a lookup that is told means.
use Rattle.hwdb_rulefiles.specs.TokenViews.{token_of}
use Rattle.hwdb_rulerun.specs.Asking
use Rattle.hwdb_rulerun.specs.declared.asking.Asked.{Asked}

abbrev pub asked_of : Asked → Asking.Told
asked_of a = record { token = token_of a.token.now; certain = a.certain }
