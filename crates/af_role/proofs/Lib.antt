pub mod PairLemmas
pub mod AccessLemmas
pub mod PairTextLemmas
pub mod MaskLemmas
pub mod DagMaskLemmas
pub mod PairMaskLemmas
