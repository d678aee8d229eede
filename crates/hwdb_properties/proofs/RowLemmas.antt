-- The rows of `Rows`, computed.
use Rattle.std.proofs.Common.{refl}
use Rattle.hwdb_spec.specs.Lines.{pieces, trimmed}
use Rattle.hwdb_properties.specs.Rows.{AxisRows, CodeRows, KeyRows, MatrixRows, MeantRows, NameRows, NumberRows, OddNameRows, PairRows, ReadRows, ResolutionRows, SettingRows}

pub resolutions : ResolutionRows
unfolding pieces
resolutions = record {
  one = refl;
  rate = refl;
  two = refl;
  word = refl;
  star = refl;
  nothing = refl;
  no_rate = refl;
  zeros = refl;
}

pub matrices : MatrixRows
unfolding pieces
matrices = record {
  plain = refl;
  parts = refl;
  zero = refl;
  flat = refl;
  sum = refl;
  turned = refl;
  halves = refl;
  eight = refl;
  letter = refl;
}

pub axes : AxisRows
unfolding pieces
axes = record {
  limits = refl;
  some = refl;
  code = refl;
  none = refl;
  capital = refl;
  marked = refl;
  last = refl;
  zeros = refl;
  digit = refl;
  above = refl;
  long = refl;
  scan = refl;
  evtest = refl;
  no_axis = refl;
  no_digit = refl;
  six = refl;
  dash = refl;
}

pub numbers : NumberRows
unfolding pieces
numbers = record {
  most = refl;
  more = refl;
  below = refl;
  half = refl;
  whole = refl;
  beyond = refl;
  still = refl;
  integer = refl;
  count = refl;
  decimal = refl;
  charge = refl;
  lone = refl;
  full = refl;
  over = refl;
  word = refl;
  other = refl;
  away = refl;
}

pub settings : SettingRows
settings = record {
  plain = refl;
  signs = refl;
  quotes = refl;
  several = refl;
  away = refl;
}

pub meant : MeantRows
unfolding pieces
meant = record {
  quotes = refl;
  single = refl;
  letters = refl;
  word = refl;
  both = refl;
  other = refl;
  form = refl;
  none = refl;
}

pub odd_names : OddNameRows
unfolding pieces trimmed
odd_names = record {
  plain = refl;
  rule = refl;
  shell = refl;
  dash = refl;
  dot = refl;
  blank = refl;
  read = refl;
  told_as_near = refl;
  hint = refl;
}

pub names : NameRows
unfolding pieces
names = record {
  case = refl;
  less = refl;
  other = refl;
  two = refl;
  swapped = refl;
  turned = refl;
  begins = refl;
  begins_more = refl;
  another = refl;
  lost = refl;
  lost_code = refl;
  other_word = refl;
  no_code = refl;
}

pub code_rows : CodeRows
code_rows = record {
  logged = refl;
  last = refl;
  eight_bits = refl;
  short = refl;
  plain = refl;
  axis = refl;
  digit = refl;
  first = refl;
  high = refl;
}

pub key_rows : KeyRows
unfolding pieces
key_rows = record {
  front = refl;
  quotes = refl;
  both = refl;
  plain = refl;
  one = refl;
  several = refl;
  capitals = refl;
  near = refl;
}

pub prefixes : ReadRows
unfolding pieces trimmed
prefixes = record {
  own = refl;
  other = refl;
  part = refl;
  anywhere = refl;
  unknown = refl;
  known_below = refl;
  told_as_near = refl;
  told_as_old = refl;
}

pub pairs : PairRows
unfolding pieces
pairs = record {
  alone = refl;
  both = refl;
  apart = refl;
  angle = refl;
  across = refl;
}
