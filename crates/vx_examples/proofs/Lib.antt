pub mod JoinedTextsFacts
pub mod QuickLemmas
pub mod QuickPackingFacts
pub mod SpanFrameFacts
