mod AsciiLemmas
mod FillLemmas
mod StripLemmas
