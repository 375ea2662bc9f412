pub mod JoinedTexts
pub mod QuickPacking
pub mod SpanFrame
